-- The choices that stand, as the search keeps them, and how far it has come.
use Rattle.std.specs.Prelude.{ℕ, suc, ◌≡◌, ◌+◌, ◌*◌, ◌-◌, ◌^◌, ◌<◌, ◌≤◌, List, [], ◌∷◌, length}
use Rattle.mace_cells.specs.Choices.{Decision}
use Rattle.mace_cells.specs.Leaves.{decisions_of}
use Rattle.mace_cells.specs.Stacked.{Stacked}
use Rattle.mace_cells.specs.World.{World, many_cells}
use Rattle.mace_cells.specs.declared.frame.Frame.{Frame}

-- each choice is that of a cell, and its value is a byte
abbrev pub AreFrames : World → List Frame → Type 0
AreFrames w [] = Unit {0}
AreFrames w (f ∷ fs) = (f.cell < many_cells w) × (f.value ≤ 255) × AreFrames w fs

-- the choices are those of the board's decisions, and there is room for one of each cell
pub record IsStanding (w : World) (ds : List Decision) (frames : Stacked Frame) : Type 0 where
  pub decided : ds ≡ decisions_of w frames.list
  pub few : length frames.list ≤ many_cells w
  pub room : many_cells w ≤ frames.room
  pub within : AreFrames w frames.list

-- How far a search among so many cells has come: it tries the values of the first cell in rising
-- order, for each of them those of the second, and so on.
abbrev pub place : ℕ → List Frame → ℕ
place many [] = 0
place many (f ∷ fs) = place many fs + (f.value + 1) * 257 ^ (many - suc (length fs))

-- and the place behind all that follows these choices
abbrev pub beyond : ℕ → List Frame → ℕ
beyond many fs = place many fs + 257 ^ (many - length fs)
