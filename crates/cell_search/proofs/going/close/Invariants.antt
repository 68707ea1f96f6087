-- nothing is lost, nothing decided, and the variables have elements; no more steps come than there are cells
use Rattle.std.proofs.Common.{true, ◌≡◌, suc, ◌-◌, length}
use Rattle.cell_search.specs.Following.{AreWellLeft, GoesOver, Grows}
use Rattle.cell_search.specs.Covering.{IsGoneOver}
use Rattle.cell_search.specs.Ways.{AreWays}
use Rattle.cell_search.specs.Losses.{IsBoard, decided_in}
use Rattle.model_tables.specs.Size.{AllBelow}
use Rattle.mace_cells.specs.World.{many_cells}
use Rattle.cell_search.proofs.going.close.Given as goal

abbrev pub invariant-loop-step : goal.invariant-loop-step
invariant-loop-step l = record {
  grows : Grows l.fn.trail l.trail;
  gone : AreWays l.setup l.groups (length l.fn.env) → AreWellLeft l.setup l.fn.trail → IsGoneOver l.setup l.fn.trail l.fn.from → IsGoneOver l.setup l.trail l.step;
  board : IsBoard l.setup l.trail;
  decided : decided_in l.setup l.trail.entries ≡ decided_in l.setup l.fn.trail.entries;
  env : AllBelow l.setup.size l.env;
  goes : GoesOver l.setup l.fn.trail true l.trail;
  many : length l.env ≡ length l.fn.env;
}

abbrev pub decreases-loop-step : goal.decreases-loop-step
decreases-loop-step l = suc (many_cells l.setup) - l.step
