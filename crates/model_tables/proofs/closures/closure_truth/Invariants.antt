-- the elements are digits, and the formula was true at all before them
use Rattle.std.proofs.Common.{◌≡◌, ◌+◌, ◌-◌, length, map}
use Rattle.fol_core.specs.FormulaView.{fol_of}
use Rattle.model_tables.specs.Digits.{AreDigits, digits_count, digits_number}
use Rattle.model_tables.specs.Variables.{assignment}
use Rattle.model_tables.proofs.Stepped.{IsPassed}
use Rattle.model_tables.proofs.closures.closure_truth.Given as goal

abbrev pub invariant-loop-env : goal.invariant-loop-env
invariant-loop-env l = record {
  room : length l.env ≡ length l.fn.env;
  digits : AreDigits (map (λ x. l.tables.top + 1) l.variables) (map (assignment l.env) l.variables);
  passed : IsPassed l.tables (fol_of l.formula.shape) l.variables (assignment l.env);
}

abbrev pub decreases-loop-env : goal.decreases-loop-env
decreases-loop-env l = digits_count (map (λ x. l.tables.top + 1) l.variables) - digits_number (map (λ x. l.tables.top + 1) l.variables) (map (assignment l.env) l.variables)
