-- The numbers at the first nodes.
use Rattle.std.proofs.Common.{◌≡◌, ℕ, ◌<◌, Some, slice_get}
use Rattle.discrim_tree.specs.Nodes.{Holds, IsIn}
use Rattle.discrim_tree.specs.Walks.{IsFound}
use Rattle.discrim_tree.proofs.nodes.Nodes.numbers_at.Given as goal

abbrev pub invariant-loop-at : goal.invariant-loop-at
invariant-loop-at l = record {
  all : (n i at : ℕ) → i < l.at-index → slice_get l.walk i ≡ Some at → Holds l.self.items at n → IsIn n l.numbers.items;
  only : (n : ℕ) → IsIn n l.numbers.items → IsFound l.self.items l.walk n;
}
