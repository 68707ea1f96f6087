-- Those from here on are left.
use Rattle.std.proofs.Common.{◌≡◌, ◌++◌, drop}
use Rattle.discrim_tree.specs.Places.{repeats}
use Rattle.discrim_tree.proofs.once.repeats.Given as goal

abbrev pub invariant-loop-i : goal.invariant-loop-i
invariant-loop-i l = l.made.items ++ repeats (drop l.i l.occurrences) ≡ repeats l.occurrences
