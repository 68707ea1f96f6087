-- The lines that are kept, without what the code adds to them.
use Rattle.std.specs.Prelude.{ℕ, zero, suc, ◌≡◌, if◌then◌else◌, List, [], ◌∷◌, map, Option, Some, None, slice_get}
use Rattle.std.specs.Option.{option_and_then}
use Rattle.fol_core.specs.Fol.{Fol}
use Rattle.fol_core.specs.FormulaView.{fol_of}
use Rattle.fol_core.specs.Literals.{ClauseTree}
use Rattle.fol_core.specs.RawTree.{RawTree}
use Rattle.fol_core.specs.Tree.{Tree}
use Rattle.fol_core.specs.declared.formula.Formula.{Formula}
use Rattle.fol_problem.specs.declared.problem.Input.{Input}
use Rattle.fol_problem.specs.declared.problem.Role.{Role}
use Rattle.derivation.specs.Lines.{ContentTree, formula, clause, LineTree, is_goal}
use Rattle.derivation.specs.declared.line.Content.{Content}
use Rattle.derivation.specs.declared.line.Content.TheVariants as content
use Rattle.derivation.specs.declared.line.Line.{Line}
use Rattle.proof_words.specs.Written.{Written, WrittenFirst, as_assumption, as_goal, written, written_of, meant}
use Rattle.clause_store.specs.Stored.{stored_clause, AreLiteralsIn}
use Rattle.clause_store.specs.declared.lines.StoredContent.{StoredContent}
use Rattle.clause_store.specs.declared.lines.StoredContent.TheVariants as stored
use Rattle.clause_store.specs.declared.lines.StoredLine.{StoredLine}
use Rattle.clause_store.specs.declared.stored.Stored.{Stored}

-- a formula with the printed names of its variables and its label, or a clause
pub data PlainContent : Type 0 where
  plain_formula : Fol → List (List ℕ) → Option RawTree → PlainContent
  plain_clause : ClauseTree → PlainContent

-- a line with its words as they are written
pub record PlainLine : Type 0 where
  pub number : ℕ
  pub content : PlainContent
  pub words : Written

abbrev pub line_under : ℕ → PlainContent → Written → PlainLine
line_under n content words = record { number = n; content = content; words = words }

-- what the code has of a formula
abbrev pub formula_content : Formula → Option RawTree → PlainContent
formula_content f label = plain_formula (fol_of f.shape) f.names label

abbrev pub stored_content : List Tree → StoredContent → PlainContent
stored_content bank (stored.Formula f label) = formula_content f label
stored_content bank (stored.Clause c) = plain_clause (stored_clause bank c.literals.items)

-- a line that is kept under a number
abbrev pub stored_line : List Tree → ℕ → StoredLine → PlainLine
stored_line bank n l = line_under n (stored_content bank l.content) (written_of l.just)

-- lines numbered from a number on
abbrev pub lines_from : List Tree → ℕ → List StoredLine → List PlainLine
lines_from bank n [] = []
lines_from bank n (l ∷ ls) = stored_line bank n l ∷ lines_from bank (suc n) ls

-- the lines of a store
abbrev pub store_lines : List Tree → List StoredLine → List PlainLine
store_lines bank ls = lines_from bank 1 ls

-- the atoms of the clauses of lines are the bank's
abbrev pub IsContentIn : List Tree → StoredContent → Type 0
IsContentIn bank (stored.Formula f label) = Unit {0}
IsContentIn bank (stored.Clause c) = AreLiteralsIn bank c.literals.items

abbrev pub AreStoredIn : List Tree → List StoredLine → Type 0
AreStoredIn bank [] = Unit {0}
AreStoredIn bank (l ∷ ls) = IsContentIn bank l.content × AreStoredIn bank ls

-- a line of a proof
abbrev pub plain_content : Content → PlainContent
plain_content (content.Formula f label) = formula_content f label
plain_content (content.Clause c) = plain_clause c

abbrev pub plain_line : Line → PlainLine
plain_line l = line_under l.number (plain_content l.content) (written_of l.just)

-- a line behind whose content nothing stands
abbrev pub IsUnnoted : Line → Type 0
IsUnnoted l = (l.notes.asks ≡ None) × (l.notes.answers.items ≡ [])

abbrev pub AreUnnoted : List Line → Type 0
AreUnnoted [] = Unit {0}
AreUnnoted (l ∷ ls) = IsUnnoted l × AreUnnoted ls

-- what a line says in a derivation
abbrev pub content_tree : PlainContent → ContentTree
content_tree (plain_formula f names label) = formula f
content_tree (plain_clause c) = clause c

abbrev pub plain_tree : PlainLine → LineTree
plain_tree l = record {
  number = l.number;
  content = content_tree l.content;
  first = meant l.words.first;
  later = l.words.later;
}

abbrev pub plain_trees : List PlainLine → List LineTree
plain_trees ls = map plain_tree ls

-- the word behind a formula of a problem
abbrev pub stating_word : Role → WrittenFirst
stating_word r = if is_goal r then as_goal else as_assumption

-- the line of a problem's formula
abbrev pub stating_line : ℕ → Role → PlainContent → PlainLine
stating_line n role content = line_under n content (written (stating_word role) [])

abbrev pub formula_line : ℕ → Input → PlainLine
formula_line n i = stating_line n i.role (formula_content i.formula i.label)

-- the lines of formulas, numbered from a number on
abbrev pub formula_lines : ℕ → List Input → List PlainLine
formula_lines n [] = []
formula_lines n (i ∷ is) = formula_line n i ∷ formula_lines (suc n) is

-- the clause of a line
abbrev pub clause_within : StoredContent → Option Stored
clause_within (stored.Formula f label) = None
clause_within (stored.Clause c) = Some c

-- the clause under a number, counted from 1
abbrev pub stored_at : List StoredLine → ℕ → Option Stored
stored_at ls zero = None
stored_at ls (suc k) = option_and_then (λ l. clause_within l.content) (slice_get ls k)

-- the line of a problem's formula, whatever the bank
abbrev pub IsLineOfInput : Input → StoredLine → Type 0
IsLineOfInput i l =
    ((bank : List Tree) (n : ℕ) → stored_line bank n l ≡ formula_line n i)
    × ((bank : List Tree) → IsContentIn bank l.content)
