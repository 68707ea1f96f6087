-- What a line states, behind a table of symbols, and what it breaks.
use Rattle.std.specs.Prelude.{◌≡◌, Bool, true, false, not, ◌||◌, nat_lt, List, [], ◌∷◌, length, Option, Some}
use Rattle.answers.specs.AnswerTrees.{Answer, answer}
use Rattle.fol_core.specs.FormulaView.{fol_of}
use Rattle.fol_core.specs.Fol.{Fol}
use Rattle.fol_core.specs.RawTree.{RawTree, depth}
use Rattle.fol_core.specs.SymbolTable.{Symbol}
use Rattle.derivation.specs.declared.line.Content.{Content}
use Rattle.derivation.specs.declared.line.Content.TheVariants.{Formula, Clause}
use Rattle.ladr_formulas.specs.ClauseIn.{clause_in}
use Rattle.ladr_formulas.specs.Formulas.{Made, Reading, meets, terms_of, formula_reading, names_of_variables}
use Rattle.ladr_formulas.specs.declared.styles.Style.{Style}
use Rattle.ladr_lex.specs.declared.limits.TheConstants.{MOST_LEVELS}
use Rattle.ladr_lex.specs.declared.misuse.Misuse.{Misuse}
use Rattle.ladr_lex.specs.declared.misuse.Misuse.TheVariants.{TwoKinds, UnfitAttribute}
use Rattle.ladr_reader.specs.Capped.{disjuncts}
use Rattle.ladr_rules.specs.Attributes.{attributed, has_unfit_weight, label_of}
use Rattle.proof_lines.specs.Answered.{ReadAnswer, are_shallow_answers}
use Rattle.proof_lines.specs.Literals.{are_shallow}
use Rattle.proof_lines.specs.Strays.{brings_stray}

-- a formula line may have the levels of an item, an atom of a clause 1,000
abbrev pub is_too_deep : Bool → RawTree → Bool
is_too_deep true t = nat_lt MOST_LEVELS (depth t)
is_too_deep false t = not (are_shallow (disjuncts t))

-- and so may a term of its answers
abbrev pub is_deep_with : Bool → RawTree → List ReadAnswer → Bool
is_deep_with by_formula t us = not (are_shallow_answers us) || is_too_deep by_formula t

-- the formula of a line's content, without attributes where it is a formula's
abbrev pub line_made : Style → List Symbol → Bool → RawTree → Made Fol
line_made st table true t = formula_reading st table (attributed t).formula
line_made st table false t = formula_reading st table t

-- the answers behind it, read one behind the other
abbrev pub answers_made : Style → Reading → List ReadAnswer → Made (List Answer)
answers_made st s [] = record { tree = []; reading = s }
answers_made st s (a ∷ us) =
    let first = terms_of st [] s a.terms in
    let others = answers_made st first.reading us in
    record { tree = answer a.goal first.tree ∷ others.tree; reading = others.reading }

-- those of a line, and how the table and the variables stand behind all
abbrev pub answers_read_behind :
    Style → List Symbol → Bool → RawTree → List ReadAnswer → Made (List Answer)
answers_read_behind st table by_formula t us =
    answers_made st (line_made st table by_formula t).reading us

abbrev pub symbols_behind : Style → List Symbol → Bool → RawTree → List ReadAnswer → List Symbol
symbols_behind st table by_formula t us =
    (answers_read_behind st table by_formula t us).reading.symbols

abbrev pub is_unfit : Bool → RawTree → Bool
is_unfit true t = has_unfit_weight (attributed t).attributes
is_unfit false t = false

-- The misuse of the least row that a line breaks: besides those of its formula and its answers, a
-- stray relation is one of the row of two kinds.
abbrev misuse_behind : List Symbol → List Symbol → Bool → Reading → Option Misuse
misuse_behind problem table unfit s =
    let strays = brings_stray problem (length table) s.symbols in
    (meets strays TwoKinds (meets unfit UnfitAttribute s)).least

abbrev pub line_misuse : Style → List Symbol → List Symbol → Bool → RawTree → List ReadAnswer →
    Option Misuse
line_misuse st problem table by_formula t us =
    misuse_behind problem table (is_unfit by_formula t)
    (answers_read_behind st table by_formula t us).reading

-- the code's content is the formula with its names and label; the clause
abbrev pub IsContentOf : Bool → RawTree → Made Fol → Content → Type 0
IsContentOf true t m (Formula f label) =
    (fol_of f.shape ≡ m.tree) × (f.names ≡ names_of_variables m.reading.variables)
    × (label ≡ label_of (attributed t).attributes)
IsContentOf false t m (Clause c) = clause_in m.tree ≡ Some c
IsContentOf by_formula t m content = ⊥
