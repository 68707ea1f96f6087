-- the variables so far have 0
use Rattle.std.proofs.Common.{◌≡◌, ℕ, ◌<◌, length, slice_index}
use Rattle.model_tables.specs.Variables.{assignment}
use Rattle.model_tables.proofs.closures.clear.Given as goal

abbrev pub invariant-loop-variable : goal.invariant-loop-variable
invariant-loop-variable l = record {
  room : length l.env ≡ length l.fn.env;
  zero : (k : ℕ) → k < l.variable-index → assignment l.env (slice_index l.variables k) ≡ 0;
}
