-- Where a board stands.
use Rattle.std.specs.Prelude.{ℕ, suc, ◌+◌, ◌*◌, ◌≡◌, ◌<◌, ◌≤◌, min, true, false, Option, None, Some}
use Rattle.mace_cells.specs.Trails.{Partial, is_struck_off}
use Rattle.mace_cells.specs.World.{World}

-- what is searched for, and the table so far
pub record BoardPosition : Type 0 where
  pub world : World
  pub table : Partial

abbrev pub position : World → Partial → BoardPosition
position world table = record { world = world; table = table }

-- the values of a cell from v on and below u are crossed off
abbrev pub AreCrossed : Partial → ℕ → ℕ → ℕ → Type 0
AreCrossed t k v u =
    (x : ℕ) → v ≤ x → x < u → is_struck_off (k * t.stride + x) t.crossings ≡ true

-- the least value from v on, up to the greatest and below `end`, that isn't
abbrev pub IsLeast : Partial → ℕ → ℕ → ℕ → ℕ → Option ℕ → Type 0
IsLeast t k v most end None = AreCrossed t k v (min (suc most) end)
IsLeast t k v most end (Some u) =
    (v ≤ u) × (u ≤ most) × (u < end) × AreCrossed t k v u
    × (is_struck_off (k * t.stride + u) t.crossings ≡ false)
