-- The numbers of the first terms.
use Rattle.std.proofs.Common.{◌≡◌, length}
use Rattle.carried_answers.specs.Above.{AreAbove}
use Rattle.carried_answers.proofs.fresh.numbers_above.Given as goal

abbrev pub invariant-loop-i : goal.invariant-loop-i
invariant-loop-i l = record {
  as_many : length l.above.items ≡ l.i;
  above : AreAbove l.bank l.above.items;
}
