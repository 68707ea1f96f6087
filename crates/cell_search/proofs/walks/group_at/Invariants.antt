-- none so far begins with this cell
use Rattle.std.proofs.Common.{◌≡◌, ℕ, ◌<◌, get_or, map}
use Rattle.cell_search.specs.declared.walk.Group.{Group}
use Rattle.cell_search.proofs.walks.group_at.Given as goal

abbrev pub invariant-loop-at : goal.invariant-loop-at
invariant-loop-at l = (k : ℕ) → k < l.at → get_or (map (λ (g : Group). g.first) l.groups) k 0 ≡ l.first → ⊥
