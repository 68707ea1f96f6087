-- How far the table of a search is closed.
use Rattle.std.specs.Prelude.{ℕ, ◌≡◌, ◌≤◌, Bool, true, false, MatchBool, List, [], ◌∷◌, length, None, Some}
use Rattle.cell_choice.specs.Shapes.{ranking_of}
use Rattle.mace_cells.specs.Trails.{Partial, partial, earliest}
use Rattle.mace_cells.specs.World.{World, many_cells}
use Rattle.mace_cells.specs.declared.trail.TrailEntry.{TrailEntry}
use Rattle.plain_search.specs.Closing.{closure}
use Rattle.plain_search.specs.Coming.{closed_behind}
use Rattle.cell_search.specs.Covering.{AreWholeWays, IsGoneOver}
use Rattle.cell_search.specs.Following.{AreWellLeft}
use Rattle.cell_search.specs.Losses.{decided_in}
use Rattle.cell_search.specs.Viewing.{left_in}
use Rattle.cell_search.specs.Ways.{AreWays}
use Rattle.cell_search.specs.declared.walk.Group.{Group}
use Rattle.cell_search.specs.declared.walk.Walk.{Walk}
use Rattle.cell_search.specs.declared.cells.Phase.{Phase}
use Rattle.cell_search.specs.declared.cells.Phase.TheVariants.{Waiting, Closed, Failed}

-- what a board knows of its ways
pub record IsReady (w : World) (walks : List Walk) (groups : List Group) (many : ℕ) : Type 0 where
  pub ways : AreWays w groups many
  pub whole : AreWholeWays w walks
  pub each : length walks ≡ length w.clauses

-- each cell has a value or two left, and the table is that of the plain search behind its decisions
pub record IsClosedTable (w : World) (t : Partial) : Type 0 where
  pub well : AreWellLeft w t
  pub behind : closed_behind w (decided_in w t.entries) ≡ Some (left_in w t)

-- so it was at each decision
abbrev pub WasClosed : World → ℕ → List TrailEntry → List ℕ → Type 0
WasClosed w stride [] ks = Unit {0}
WasClosed w stride (e ∷ es) ks =
    MatchBool e.decided
    ((e.mark ≤ length ks)
    × IsClosedTable w (partial (many_cells w) stride (ranking_of w) es (earliest e.mark ks))
    × WasClosed w stride es (earliest e.mark ks)) (WasClosed w stride es ks)

-- It waits to be closed: nothing is in it yet; or its instances were gone over for the first so many
-- steps, and its closure is what comes behind its decisions.
abbrev pub IsWaiting : World → Partial → Bool → ℕ → Type 0
IsWaiting w t false head = (t.entries ≡ []) × (t.crossings ≡ [])
IsWaiting w t true head =
    AreWellLeft w t × IsGoneOver w t head
    × (closure w (left_in w t) ≡ closed_behind w (decided_in w t.entries))

-- or it is closed; or closing met a contradiction
abbrev pub IsInPhase : World → Partial → Bool → ℕ → Phase → Type 0
IsInPhase w t begun head Waiting = IsWaiting w t begun head
IsInPhase w t begun head Closed = IsClosedTable w t
IsInPhase w t begun head Failed = closed_behind w (decided_in w t.entries) ≡ None

abbrev pub phase_after : Bool → Phase
phase_after true = Closed
phase_after false = Failed
