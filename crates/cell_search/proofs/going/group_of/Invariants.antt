-- fewer are left, and those behind begin later
use Rattle.std.proofs.Common.{◌≡◌, ℕ, ◌<◌, ◌≤◌, get_or, length}
use Rattle.cell_search.specs.declared.walk.Group.{Group}
use Rattle.cell_search.proofs.going.group_of.Given as goal

abbrev pub decreases-loop-at : goal.decreases-loop-at
decreases-loop-at l = l.at

abbrev pub invariant-loop-at : goal.invariant-loop-at
invariant-loop-at l = record {
  within : l.at ≤ length l.groups;
  behind : (later : ℕ) (g : Group) → l.at ≤ later → later < length l.groups → g ≡ get_or l.groups later g → l.cell < g.first;
}
