-- No rule fits in the literals before, and none in the terms that are known.
use Rattle.std.proofs.Common.{◌≤◌, take}
use Rattle.clause_index.specs.Normal.{HaveNoStep}
use Rattle.demodulate.proofs.Redexes.{AreNormalLiterals}
use Rattle.demodulate.proofs.normal.first_in_clause.Given as goal

abbrev pub invariant-loop-place : goal.invariant-loop-place
invariant-loop-place l = record {
  normal : AreNormalLiterals l.rules (take l.place l.literal-items);
  known : HaveNoStep l.rules l.known;
  on : l.fn.tries ≤ l.tries;
}
