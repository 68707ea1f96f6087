-- The first numbers stand there, and there is room for all.
use Rattle.std.proofs.Common.{◌≤◌, vec_capacity}
use Rattle.term_unifiers.specs.Merging.{CountsUp}
use Rattle.term_unifiers.proofs.linking.apart.Given as goal

abbrev pub invariant-loop-n : goal.invariant-loop-n
invariant-loop-n l = record {
  first : CountsUp l.numbers.items l.n;
  room : l.fn.count ≤ vec_capacity l.numbers;
}
