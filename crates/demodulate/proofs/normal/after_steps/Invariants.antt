-- The steps that are left come to the same, no rule fits left of the last one, and none in the terms that are known.
use Rattle.std.proofs.Common.{◌≡◌, ◌≤◌, ◌-◌, map, []}
use Rattle.derivation.specs.View.{later_of}
use Rattle.clause_index.specs.Normal.{HaveNoStep}
use Rattle.prover_steps.specs.Searching.{is_too_large}
use Rattle.demodulate.proofs.Redexes.{steps_left}
use Rattle.demodulate.specs.Resumed.{AreLiteralsNormalBefore}
use Rattle.demodulate.proofs.normal.after_steps.Given as goal

abbrev pub invariant-loop-step : goal.invariant-loop-step
invariant-loop-step l = record {
  same : steps_left is_too_large l.rules (l.limit - l._step) l.clause (map later_of l.words.items) ≡ steps_left is_too_large l.rules l.limit l.fn.clause [];
  before : AreLiteralsNormalBefore l.rules l.from.items 0 l.clause;
  known : HaveNoStep l.rules l.known;
  on : l.fn.tries ≤ l.tries;
}
