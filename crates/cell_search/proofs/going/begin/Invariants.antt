-- nothing is lost, nothing decided, and the variables have elements
use Rattle.std.proofs.Common.{true, ◌≡◌, length}
use Rattle.cell_search.specs.Covering.{AreDoneBefore, AreWholeWays}
use Rattle.cell_search.specs.Following.{GoesOver, Grows}
use Rattle.cell_search.specs.Full.{HaveVariables}
use Rattle.cell_search.specs.Losses.{IsBoard, decided_in}
use Rattle.model_tables.specs.Size.{AllBelow}
use Rattle.cell_search.proofs.going.begin.Given as goal

abbrev pub invariant-loop-walk : goal.invariant-loop-walk
invariant-loop-walk l = record {
  grows : Grows l.fn.trail l.trail;
  board : IsBoard l.setup l.trail;
  decided : decided_in l.setup l.trail.entries ≡ decided_in l.setup l.fn.trail.entries;
  env : AllBelow l.setup.size l.env;
  goes : GoesOver l.setup l.fn.trail true l.trail;
  many : length l.env ≡ length l.fn.env;
  covers : AreWholeWays l.setup l.walks → HaveVariables l.setup.clauses (length l.fn.env) → AreDoneBefore l.setup l.walk-index l.fn.trail l.trail;
}
