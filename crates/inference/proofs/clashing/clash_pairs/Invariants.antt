-- What is put in, and what the satellites from here on give, is all.
use Rattle.std.proofs.Common.{◌≡◌, ◌++◌}
use Rattle.inference.proofs.ClashSteps.{pairs_behind, first_of}
use Rattle.inference.proofs.clashing.clash_pairs.Given as goal

abbrev pub invariant-loop-i : goal.invariant-loop-i
invariant-loop-i l =
    (l.pairs.many ≡ l.initial.pairs.many) × (l.pairs.pairs ++ pairs_behind l.pairs.many (first_of l.parents) l.satellites l.parents l.i ≡ l.initial.pairs.pairs ++ pairs_behind l.pairs.many (first_of l.parents) l.satellites l.parents 0)
