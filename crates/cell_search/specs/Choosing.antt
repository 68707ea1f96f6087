-- The cell that is picked, in the plain search.
use Rattle.std.specs.Prelude.{ℕ, ◌≡◌, List, Option, None, Some}
use Rattle.cell_choice.specs.Choosing.{IsPicked}
use Rattle.cell_choice.specs.Shapes.{index_in}
use Rattle.mace_cells.specs.Choices.{Decision}
use Rattle.mace_cells.specs.Numbers.{above_used}
use Rattle.mace_cells.specs.Trails.{Partial, IsBlank}
use Rattle.mace_cells.specs.World.{World, cell_of, many_cells}
use Rattle.plain_search.specs.Trying.{chosen, score}
use Rattle.cell_search.specs.Following.{AreWellLeft}
use Rattle.cell_search.specs.Searchable.{HasAllCells}
use Rattle.cell_search.specs.Viewing.{left_in}

-- a table of a world in which each cell has a value or two left
pub record IsTableOf (w : World) (t : Partial) : Type 0 where
  pub cells : HasAllCells w
  pub many : t.many ≡ many_cells w
  pub well : AreWellLeft w t

-- the score that a cell has in the plain search
abbrev pub score_of : World → Partial → ℕ → ℕ
score_of w t k = score w.way.measure w (left_in w t) (cell_of w k)

-- the cell that is picked by it behind some decisions, or none where each has a value
abbrev pub IsPickedBehind : World → Partial → List Decision → Option ℕ → Type 0
IsPickedBehind w t ds None = (k : ℕ) → IsBlank t k → ⊥
IsPickedBehind w t ds (Some k) =
    IsPicked (index_in w) t (score_of w t) w.way.candidates (above_used w.fixed ds) k

-- The cell that is picked by it is the one that the plain search chooses.
abbrev pub PickedIsChosen : Type 0
PickedIsChosen =
    (w : World) (t : Partial) (ds : List Decision) (k : ℕ) → IsTableOf w t
    → IsPickedBehind w t ds (Some k) → chosen w ds (left_in w t) ≡ Some (cell_of w k)

-- Where none is without a value, it chooses none.
abbrev pub NoneIsChosen : Type 0
NoneIsChosen =
    (w : World) (t : Partial) (ds : List Decision) → IsTableOf w t
    → IsPickedBehind w t ds None → chosen w ds (left_in w t) ≡ None
