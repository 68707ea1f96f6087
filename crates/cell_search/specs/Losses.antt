-- Partial tables from which nothing is lost: what the decisions leave, the table leaves.
use Rattle.std.specs.Prelude.{ℕ, ◌+◌, ◌*◌, ◌/◌, ◌%◌, ◌≡◌, ◌<◌, ◌≤◌, true, false, if◌then◌else◌, List, [], ◌∷◌, MatchBool, max, length, None, Some}
use Rattle.fol_core.specs.Meaning.{Meaning}
use Rattle.cell_choice.specs.Shapes.{ranking_of}
use Rattle.mace_cells.specs.Choices.{Decision, AgreesWith}
use Rattle.mace_cells.specs.Trails.{Partial, value_in, is_struck_off, earliest}
use Rattle.mace_cells.specs.World.{World, Solves, cell_of, many_cells}
use Rattle.mace_cells.specs.declared.trail.TrailEntry.{TrailEntry}
use Rattle.mace_ground.specs.Cells.{value_at}
use Rattle.model_tables.specs.Size.{bound_of}

-- an interpretation has in each cell the value that was given to it
abbrev pub Extends : World → Meaning → List TrailEntry → Type 0
Extends w m es =
    (k v : ℕ) → k < many_cells w → value_in es k ≡ Some v → value_at m (cell_of w k) ≡ v

-- and none that was crossed off
abbrev pub Spares : World → Meaning → ℕ → List ℕ → Type 0
Spares w m stride ks =
    (k v : ℕ) → k < many_cells w → v < stride → is_struck_off (k * stride + v) ks ≡ true →
    value_at m (cell_of w k) ≡ v → ⊥

abbrev pub decision_of : World → TrailEntry → Decision
decision_of w e = record { cell = cell_of w e.cell; value = e.value }

-- the values that were decided, the latest first
abbrev pub decided_in : World → List TrailEntry → List Decision
decided_in w [] = []
decided_in w (e ∷ es) = if e.decided then decision_of w e ∷ decided_in w es else decided_in w es

-- each solution that agrees with what was decided has the values of the table, and none that is
-- crossed off
abbrev pub LosesNone : World → ℕ → List TrailEntry → List ℕ → Type 0
LosesNone w stride es ks =
    (m : Meaning) → Solves w m → AgreesWith m (decided_in w es) → Extends w m es
    × Spares w m stride ks

-- and so it was at each decision
abbrev pub LostNone : World → ℕ → List TrailEntry → List ℕ → Type 0
LostNone w stride [] ks = Unit {0}
LostNone w stride (e ∷ es) ks =
    MatchBool e.decided
    ((e.mark ≤ length ks) × LosesNone w stride es (earliest e.mark ks)
    × LostNone w stride es (earliest e.mark ks)) (LostNone w stride es ks)

-- each step gave a value to a cell that had none
abbrev pub AreFresh : World → List TrailEntry → Type 0
AreFresh w [] = Unit {0}
AreFresh w (e ∷ es) = (e.cell < many_cells w) × (value_in es e.cell ≡ None) × AreFresh w es

-- each value was crossed off once, and is one that its cell can have
abbrev pub AreCrossedOnce : World → ℕ → List ℕ → Type 0
AreCrossedOnce w stride [] = Unit {0}
AreCrossedOnce w stride (j ∷ js) =
    (is_struck_off j js ≡ false)
    × (j % stride < bound_of w.size (cell_of w (j / stride)).kind)
    × AreCrossedOnce w stride js

-- A partial table of the cells from which nothing is lost, in which no value was crossed off twice.
pub record IsBoard (w : World) (t : Partial) : Type 0 where
  pub some : 0 < w.size
  pub many : t.many ≡ many_cells w
  pub stride : t.stride ≡ max w.size 2
  pub ranking : t.ranking ≡ ranking_of w
  pub fresh : AreFresh w t.entries
  pub present : LosesNone w t.stride t.entries t.crossings
  pub before : LostNone w t.stride t.entries t.crossings
  pub once : AreCrossedOnce w t.stride t.crossings
