-- The terms of the heads from here on are made.
use Rattle.std.proofs.Common.{◌≡◌, drop}
use Rattle.packed_terms.specs.Building.{from_top, built}
use Rattle.packed_terms.specs.Codes.{heads_of}
use Rattle.packed_terms.proofs.unpacking.built.Given as goal

abbrev pub invariant-loop-left : goal.invariant-loop-left
invariant-loop-left l = from_top l.stack.items ≡ built (drop l.left (heads_of l.form))

abbrev pub decreases-loop-left : goal.decreases-loop-left
decreases-loop-left l = l.left
