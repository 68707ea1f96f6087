-- The table of a search as a partial table of the plain search.
use Rattle.std.specs.Prelude.{ℕ, ◌≡◌, ◌+◌, ◌*◌, ◌<◌, max, false, not, List, [], ◌∷◌, Option, None, Some}
use Rattle.std.specs.List.{filter, range_with_len}
use Rattle.mace_cells.specs.Trails.{Partial, partial, value_in, is_struck_off}
use Rattle.mace_cells.specs.World.{World, cell_of, many_cells}
use Rattle.mace_cells.specs.declared.trail.TrailEntry.{TrailEntry}
use Rattle.mace_ground.specs.Cells.{Cell}
use Rattle.model_tables.specs.Size.{bound_of}
use Rattle.plain_search.specs.Closing.{kept}
use Rattle.plain_search.specs.Lefts.{ValuesLeft, with_left}
use Rattle.cell_search.specs.Asking.{IsWellLeft}
use Rattle.cell_search.specs.Known.{cell_number}
use Rattle.cell_search.specs.Searchable.{HasAllCells}
use Rattle.cell_search.specs.Telling.{HasValues}

-- the number that a cell has
abbrev pub number_of : World → Cell → Option ℕ
number_of w c = cell_number w c.kind c.symbol c.arguments

-- the values below `end` that aren't crossed off the cell of a number
abbrev pub uncrossed : Partial → ℕ → ℕ → List ℕ
uncrossed t k end =
    filter (λ v. not (is_struck_off (k * t.stride + v) t.crossings)) (range_with_len 0 end)

-- what such a cell has left: its value, where it has one, or those that aren't crossed off
abbrev pub left_at : Partial → ℕ → ℕ → Option ℕ → List ℕ
left_at t k end (Some v) = v ∷ []
left_at t k end None = uncrossed t k end

-- what a cell has left that has this number, or none
abbrev pub left_by : Partial → ℕ → Option ℕ → List ℕ
left_by t end None = range_with_len 0 end
left_by t end (Some k) = left_at t k end (value_in t.entries k)

abbrev pub left_in : World → Partial → ValuesLeft
left_in w t = λ c. left_by t (bound_of w.size c.kind) (number_of w c)

-- Where each cell has a value or two left, the partial table has the values of the steps.
abbrev pub ViewHasValues : Type 0
ViewHasValues =
    (w : World) (t : Partial) → HasAllCells w
    → ((k : ℕ) → k < many_cells w → IsWellLeft w t k) → HasValues w t.entries (left_in w t)

-- A step that gives a cell a value leaves it this value alone, and changes nothing else.
abbrev pub StepAssigns : Type 0
StepAssigns =
    (w : World) (t : Partial) (e : TrailEntry) → HasAllCells w → e.cell < many_cells w
    → left_in w (partial t.many t.stride t.ranking (e ∷ t.entries) t.crossings)
    ≡ with_left (left_in w t) (cell_of w e.cell) (e.value ∷ [])

-- One that crosses a value off a cell without a value leaves the cell its others, and changes nothing
-- else.
abbrev pub StepCrosses : Type 0
StepCrosses =
    (w : World) (t : Partial) (k v : ℕ) → HasAllCells w → k < many_cells w
    → t.stride ≡ max w.size 2 → v < t.stride → value_in t.entries k ≡ None
    → left_in w
    (partial t.many t.stride t.ranking t.entries ((k * t.stride + v) ∷ t.crossings))
    ≡ with_left (left_in w t) (cell_of w k) (kept false v (left_in w t (cell_of w k)))
