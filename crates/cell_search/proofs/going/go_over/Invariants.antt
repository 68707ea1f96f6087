-- nothing is lost, nothing decided, and the variables have elements
use Rattle.std.proofs.Common.{true, ◌≡◌, length}
use Rattle.cell_search.specs.Following.{GoesOver, Grows}
use Rattle.cell_search.specs.Ways.{CoversCell}
use Rattle.cell_search.specs.Losses.{IsBoard, decided_in}
use Rattle.model_tables.specs.Size.{AllBelow}
use Rattle.cell_search.proofs.going.go_over.Given as goal

abbrev pub invariant-loop-walk : goal.invariant-loop-walk
invariant-loop-walk l = record {
  grows : Grows l.fn.trail l.trail;
  covers : CoversCell l.setup l.group l.cell (length l.fn.env) l.fn.trail l.trail l.walk-index;
  board : IsBoard l.setup l.trail;
  decided : decided_in l.setup l.trail.entries ≡ decided_in l.setup l.fn.trail.entries;
  env : AllBelow l.setup.size l.env;
  goes : GoesOver l.setup l.fn.trail true l.trail;
  many : length l.env ≡ length l.fn.env;
}
