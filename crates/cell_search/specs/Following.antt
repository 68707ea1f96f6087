-- What the steps of a search are in the plain search.
use Rattle.std.specs.List.{AllByRecursion}
use Rattle.std.specs.Prelude.{ℕ, ◌≡◌, ◌<◌, ◌++◌, Bool, true, false, List, Option, None, Some}
use Rattle.mace_cells.specs.Trails.{Partial}
use Rattle.mace_cells.specs.World.{World, many_cells}
use Rattle.mace_cells.specs.declared.trail.TrailEntry.{TrailEntry}
use Rattle.plain_search.specs.Closing.{Told, followed, Ground, pass}
use Rattle.plain_search.specs.Lefts.{ValuesLeft}
use Rattle.plain_search.specs.Orders.{AreInstancesOf}
use Rattle.cell_search.specs.Asking.{IsWellLeft}
use Rattle.cell_search.specs.Searchable.{HasAllCells}
use Rattle.cell_search.specs.Viewing.{left_in}

-- each cell has a value, or two left
abbrev pub AreWellLeft : World → Partial → Type 0
AreWellLeft w t = (k : ℕ) → k < many_cells w → IsWellLeft w t k

-- each cell that had has still
abbrev pub StayWellLeft : World → Partial → Partial → Type 0
StayWellLeft w t t' = (k : ℕ) → k < many_cells w → IsWellLeft w t k → IsWellLeft w t' k

-- the partial table that something came to, None where that met a contradiction
abbrev pub left_after : World → Bool → Partial → Option ValuesLeft
left_after w true t = Some (left_in w t)
left_after w false t = None

-- what is told was done, no more and no less; or it can't be
abbrev pub IsFollowed : World → Partial → Told → Bool → Partial → Type 0
IsFollowed w t told done t' = followed (left_in w t) told ≡ left_after w done t'

-- some instances of the clauses were gone over, one after the other, and what each told was done; or
-- that met a contradiction
abbrev pub IsPass : World → Partial → Bool → Partial → Type 0
IsPass w t done t' =
    (gs : List Ground)
    × (AreInstancesOf w gs × (pass w.size gs (left_in w t) ≡ left_after w done t'))

-- so it is from a table in which each cell has a value or two left, and it is such a table again
abbrev pub GoesOver : World → Partial → Bool → Partial → Type 0
GoesOver w t done t' =
    HasAllCells w → AreWellLeft w t → IsPass w t done t' × (done ≡ true → AreWellLeft w t')

-- steps were made, none of them a decision, and values were crossed off; nothing was taken back
pub record Grows (t t' : Partial) : Type 0 where
  pub later : List TrailEntry
  pub entries : t'.entries ≡ later ++ t.entries
  pub undecided : AllByRecursion (λ e. e.decided ≡ false) later
  pub more : List ℕ
  pub crossings : t'.crossings ≡ more ++ t.crossings
