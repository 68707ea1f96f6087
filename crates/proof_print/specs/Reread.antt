-- What the texts of contents and lines are read as.
use Rattle.std.specs.Prelude.{◌≡◌, ℕ, ◌≤◌, ◌^◌, Bool, true, false, IsTrue, List, [], ◌∷◌, ◌++◌, length, drop, None, codes}
use Rattle.derivation.specs.declared.line.Content.{Content}
use Rattle.derivation.specs.declared.line.Content.TheVariants.{Formula, Clause}
use Rattle.derivation.specs.declared.line.Line.{Line}
use Rattle.fol_core.specs.FormulaView.{fol_of}
use Rattle.fol_core.specs.Literals.{ClauseTree, equality}
use Rattle.fol_core.specs.RawTree.{RawTree}
use Rattle.fol_core.specs.Renumbered.{clause_variables, renumbered}
use Rattle.fol_core.specs.SymbolTable.{Symbol, FindsEach}
use Rattle.ladr_formulas.specs.Formulas.{style_of}
use Rattle.ladr_formulas.specs.declared.styles.Mode.TheVariants.{Prover}
use Rattle.ladr_formulas.specs.declared.styles.Style.{Style}
use Rattle.ladr_lex.specs.ClauseNames.{FreesVariables, clause_variable}
use Rattle.ladr_lex.specs.Cuts.{Piece, Cuts}
use Rattle.ladr_lex.specs.Lexeme.{Lexeme}
use Rattle.ladr_lex.specs.Operators.{OperatorRow, are_lawful}
use Rattle.ladr_print.specs.ClauseText.{clause_raw}
use Rattle.ladr_print.specs.HasText.{HasText, IsClauseOver}
use Rattle.ladr_print.specs.StatesAs.{KeepsFixed}
use Rattle.ladr_reader.specs.Table.{OperatorTable, table_of}
use Rattle.ladr_rules.specs.Asked.{line_asks}
use Rattle.ladr_reader.specs.Worked.{lexemes_in}
use Rattle.proof_lines.specs.ContentTokens.{LineTables, IsContent}
use Rattle.proof_lines.specs.Faults.{IsLineRead}
use Rattle.proof_lines.specs.Noted.{asks_in}
use Rattle.proof_lines.specs.Stated.{is_too_deep, line_made, line_misuse, IsContentOf}
use Rattle.proof_print.specs.LineTexts.{formula_term, content_text, lines_text}
use Rattle.proof_print.specs.Rereadable.{AreReadable, clause_uses, IsClauseOfKinds}
use Rattle.proof_words.specs.Written.{written_of, written_first, states_formula}
use Rattle.words_print.specs.Sayable.{IsShort, IsSayable}

-- from a place on the bytes are cut into these tokens
pub record IsCutInto (i : ℕ) (bytes : List ℕ) (us : List Lexeme) : Type 0 where
  pub pieces : List Piece
  pub cuts : Cuts i bytes pieces
  pub are : lexemes_in pieces ≡ us

-- as content of a line the term is neither too deep nor misused, and is this formula or clause, a
-- formula without an attribute that asks; the table of symbols stays
pub record IsContentTerm (st : Style) (problem table : List Symbol) (by_formula : Bool)
    (tree : RawTree) (content : Content) : Type 0 where
  pub shallow : is_too_deep by_formula tree ≡ false
  pub unmisused : line_misuse st problem table by_formula tree [] ≡ None
  pub asks : by_formula ≡ true → line_asks tree ≡ None
  pub means : IsContentOf by_formula tree (line_made st table by_formula tree) content
  pub symbols : (line_made st table by_formula tree).reading.symbols ≡ table

-- the operators of formulas and of clauses
abbrev pub row_tables : List OperatorRow → List OperatorRow → LineTables
row_tables formulas clauses =
    record { formulas = table_of formulas; clauses = table_of clauses }

-- with these operators of clauses and this style of variables the names of clauses' variables are
-- read as what they name, and each symbol of the table is found by its name
pub record CanPrint (rows : List OperatorRow) (prolog : Bool) (table : List Symbol) : Type 0 where
  pub lawful : IsTrue (are_lawful rows)
  pub fixed : KeepsFixed rows
  pub frees : FreesVariables prolog rows
  pub few : length table ≤ equality
  pub finds : FindsEach table

-- the clause is one over the table, whose symbols are readable with these operators, numbered, and
-- not too deep for a line
pub record IsPrintableClause (g : OperatorTable) (prolog : Bool) (table : List Symbol)
    (c : ClauseTree) : Type 0 where
  pub over : IsClauseOver table c
  pub kinds : IsClauseOfKinds table c
  pub readable : AreReadable g (style_of Prover prolog) table (clause_uses c)
  pub numbered : renumbered c ≡ c
  pub few : length (clause_variables c) ≤ 2 ^ 64
  pub shallow : is_too_deep false (clause_raw table (clause_variable prolog) c) ≡ false

-- the clause is such a one; a formula's term has a text, and is read as the formula
abbrev pub IsPrintableContent : LineTables → Bool → List Symbol → List Symbol → Content → Type 0
IsPrintableContent g prolog problem table (Formula f label) =
    let t = formula_term table (fol_of f.shape) f.names label in
    HasText g.formulas t
    × IsContentTerm (style_of Prover prolog) problem table true t (Formula f label)
IsPrintableContent g prolog problem table (Clause c) =
    IsPrintableClause g.clauses prolog table c

-- whether a content is a formula
abbrev pub states_content : Content → Bool
states_content (Formula f label) = true
states_content (Clause c) = false

-- the line's number is short, its words can be said and suit its content, this is printable, and
-- nothing stands behind it
pub record IsPrintableLine (g : LineTables) (prolog : Bool) (problem table : List Symbol)
    (l : Line) : Type 0 where
  pub number : IsShort l.number
  pub words : IsSayable (written_of l.just)
  pub suits : states_formula (written_first l.just.first) ≡ states_content l.content
  pub content : IsPrintableContent g prolog problem table l.content
  pub asks : asks_in l.notes ≡ None
  pub answers : l.notes.answers.items ≡ []

abbrev pub ArePrintable : LineTables → Bool → List Symbol → List Symbol → List Line → Type 0
ArePrintable g prolog problem table [] = Unit {0}
ArePrintable g prolog problem table (l ∷ ls) =
    IsPrintableLine g prolog problem table l × ArePrintable g prolog problem table ls

-- the tokens are these lines, one behind the other, each read behind the table, which stays
abbrev pub AreLinesRead : LineTables → Style → List Symbol → List Symbol → List Lexeme → List Line
    → Type 0
AreLinesRead g st problem table ts [] = ts ≡ []
AreLinesRead g st problem table ts (l ∷ ls) =
    (len : ℕ) × IsLineRead g st problem table ts (record { line = l; len = len }) table
    × AreLinesRead g st problem table (drop len ts) ls

-- the text of a content with a full stop is cut into tokens that are read as the content
pub record ReadsContent (g : LineTables) (prolog : Bool) (problem table : List Symbol)
    (content : Content) : Type 0 where
  pub tokens : List Lexeme
  pub tree : RawTree
  pub cut : (i : ℕ) → IsCutInto i (content_text g table prolog content ++ codes ".") tokens
  pub is_content : IsContent g (states_content content) tokens tree []
  pub is_read : IsContentTerm (style_of Prover prolog) problem table (states_content content) tree
      content

-- the text of lines is cut into tokens that are read as the lines
pub record ReadsLines (g : LineTables) (prolog : Bool) (problem table : List Symbol)
    (ls : List Line) : Type 0 where
  pub tokens : List Lexeme
  pub cut : (i : ℕ) → IsCutInto i (lines_text g table prolog ls) tokens
  pub are : AreLinesRead g (style_of Prover prolog) problem table tokens ls
