-- The first literals are copied.
use Rattle.std.proofs.Common.{◌≡◌, map, take}
use Rattle.inference.specs.Left.{left_tree}
use Rattle.inference.specs.Owned.{owned_tree}
use Rattle.inference.proofs.large.all_owned.Given as goal

abbrev pub invariant-loop-one : goal.invariant-loop-one
invariant-loop-one l = map owned_tree l.owned.items ≡ map left_tree (take l.one-index l.left)
