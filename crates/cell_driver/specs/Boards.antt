-- What a board tells.
use Rattle.std.specs.Prelude.{ℕ, ◌≡◌, ◌<◌, List, length, Option, None, Some}
use Rattle.fol_core.specs.Meaning.{Meaning}
use Rattle.mace_cells.specs.Choices.{Decision, IsUndecided}
use Rattle.mace_cells.specs.World.{World, IsSettled, IsRefuted, cell_of, many_cells}
use Rattle.mace_ground.specs.Cells.{Cell}
use Rattle.plain_search.specs.Coming.{closed_behind, IsFirst}
use Rattle.plain_search.specs.Lefts.{ValuesLeft}
use Rattle.plain_search.specs.Orders.{IsTable}
use Rattle.plain_search.specs.Trying.{chosen}
use Rattle.cell_driver.specs.declared.board.Status.{Status}
use Rattle.cell_driver.specs.declared.board.Status.TheVariants.{Choose, Settled, Refuted}

-- the decisions lead so far, to this interpretation where they settle all values
abbrev pub IsAsSaid : World → List Decision → Meaning → Status → Type 0
IsAsSaid w ds m (Choose cell) =
    (cell < many_cells w) × (length ds < many_cells w) × IsUndecided ds (cell_of w cell)
IsAsSaid w ds m Settled = IsSettled w ds m
IsAsSaid w ds m Refuted = IsRefuted w ds

-- the table of the plain search behind decisions
abbrev pub IsBehind : World → List Decision → ValuesLeft → Type 0
IsBehind w ds p = (closed_behind w ds ≡ Some p) × IsTable p

-- There the plain search chooses this cell, or none; or its closing met a contradiction.
abbrev pub StandsAs : World → List Decision → Status → Type 0
StandsAs w ds (Choose cell) =
    (p : ValuesLeft) × (IsBehind w ds p × (chosen w ds p ≡ Some (cell_of w cell)))
StandsAs w ds Settled = (p : ValuesLeft) × (IsBehind w ds p × (chosen w ds p ≡ None))
StandsAs w ds Refuted = closed_behind w ds ≡ None

-- the least value that a cell has left there, from one number on up to another
abbrev pub HasNext : World → List Decision → Cell → ℕ → ℕ → Option ℕ → Type 0
HasNext w ds c from most o = (p : ValuesLeft) × (IsBehind w ds p × IsFirst (p c) from most o)
