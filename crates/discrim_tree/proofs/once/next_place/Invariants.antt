-- The variable stands nowhere before.
use Rattle.std.proofs.Common.{◌≡◌, drop}
use Rattle.discrim_tree.specs.Places.{next_place}
use Rattle.discrim_tree.proofs.once.next_place.Given as goal

abbrev pub invariant-loop-occurrence : goal.invariant-loop-occurrence
invariant-loop-occurrence l = next_place l.x l.occurrences ≡ next_place l.x (drop l.occurrence-index l.occurrences)
