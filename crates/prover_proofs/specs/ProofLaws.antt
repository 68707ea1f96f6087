-- What the proofs of a search are.
use Rattle.std.specs.Prelude.{◌≡◌, List}
use Rattle.std.specs.List.{AllByRecursion}
use Rattle.clause_store.specs.Ancestors.{AreAncestors}
use Rattle.clause_store.specs.Lines.{PlainLine, formula_lines, plain_trees}
use Rattle.derivation.specs.Lines.{InputRow, IsRefutation}
use Rattle.fol_problem.specs.Stated.{Said, all_said}
use Rattle.fol_problem.specs.declared.problem.Input.{Input}
use Rattle.prover_proofs.specs.SearchLines.{stated_lines, lines_at}
use Rattle.prover_steps.specs.SearchLaws.{all_lines, IsSoundState, KeepsVariables}
use Rattle.prover_steps.specs.Searching.{Setting, FoundProof, SearchState, SearchReaches}
use Rattle.prover_steps.specs.Starting.{said_lines, problem_lines, start_state, AreRowsOf}

-- lines of formulas, that say what is said
abbrev pub SayWhatIsSaid : List PlainLine → List Said → Type 0
SayWhatIsSaid formulas ss = plain_trees formulas ≡ said_lines 1 ss

-- so do the lines of a problem's formulas
abbrev pub FormulaLinesSay : Type 0
FormulaLinesSay = (is : List Input) → SayWhatIsSaid (formula_lines 1 is) (all_said is)

-- all lines of a state say what they say in its derivation
abbrev pub StateLinesSay : Type 0
StateLinesSay =
    (formulas : List PlainLine) (ss : List Said) (rows : List InputRow) (t : SearchState)
    → SayWhatIsSaid formulas ss
    → plain_trees (lines_at (stated_lines formulas ss rows) t) ≡ all_lines (problem_lines ss rows) t

-- the lines that the last one of a proof rests on are a refutation
abbrev pub IsProofOf : List Said → List InputRow → List PlainLine → FoundProof → Type 0
IsProofOf ss rows all p =
    (some : List PlainLine)
    → AreAncestors all p.line some → IsRefutation ss rows (plain_trees some)

abbrev pub AreProofsOf : List PlainLine → List Said → List InputRow → SearchState → Type 0
AreProofsOf formulas ss rows t =
    AllByRecursion (IsProofOf ss rows (lines_at (stated_lines formulas ss rows) t)) t.proofs

-- of each proof of a sound state, and so of each that a search finds
abbrev pub SoundProofsRefute : Type 0
SoundProofsRefute =
    (formulas : List PlainLine) (ss : List Said) (rows : List InputRow) (t : SearchState)
    → SayWhatIsSaid formulas ss → IsSoundState ss rows (problem_lines ss rows) t
    → AreProofsOf formulas ss rows t

abbrev pub FoundProofsRefute : Type 0
FoundProofsRefute =
    (formulas : List PlainLine) (ss : List Said) (rows : List InputRow) (st : Setting)
    (t : SearchState)
    → SayWhatIsSaid formulas ss → KeepsVariables st.greater → AreRowsOf ss rows
    → SearchReaches st (start_state ss rows) t → AreProofsOf formulas ss rows t
