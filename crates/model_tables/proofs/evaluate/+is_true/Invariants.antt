-- the elements are as at the start, and the formula was true, or false, with each element so far
use Rattle.std.proofs.Common.{◌≡◌, ◌<◌, ℕ}
use Rattle.fol_core.specs.FormulaView.{fol_of}
use Rattle.fol_core.specs.Truth.{Holds, with_var}
use Rattle.model_tables.specs.Tables.{meaning_of}
use Rattle.model_tables.specs.Variables.{assignment}
use Rattle.model_tables.proofs.evaluate.+is_true.Given as goal

abbrev pub invariant-true_of_all-loop-element : goal.invariant-true_of_all-loop-element
invariant-true_of_all-loop-element l =
    (l.env ≡ l.fn.env) × ((n : ℕ) → n < l.element → Holds (meaning_of l.tables) (with_var (assignment l.fn.env) l.variable n) (fol_of l.shape))

abbrev pub invariant-true_of_some-loop-element : goal.invariant-true_of_some-loop-element
invariant-true_of_some-loop-element l =
    (l.env ≡ l.fn.env) × ((n : ℕ) → n < l.element → ¬ Holds (meaning_of l.tables) (with_var (assignment l.fn.env) l.variable n) (fol_of l.shape))
