-- one variable fewer is left; nothing is lost, nothing decided, and the variables have elements
use Rattle.std.proofs.Common.{true, ◌≡◌, suc, ◌-◌, drop, length}
use Rattle.cell_search.proofs.Covering.{CoversBelow}
use Rattle.cell_search.specs.Covering.{AgreeOutside}
use Rattle.cell_search.specs.Following.{GoesOver, Grows}
use Rattle.cell_search.specs.Losses.{IsBoard, decided_in}
use Rattle.model_tables.specs.Size.{AllBelow}
use Rattle.cell_search.proofs.going.+go.Given as goal

abbrev pub decreases-go : goal.decreases-go
decreases-go l = suc (length l.walk.now.order.items) - l.at

abbrev pub invariant-loop-element : goal.invariant-loop-element
invariant-loop-element l = record {
  grows : Grows l.fn.trail l.trail;
  board : IsBoard l.setup l.trail;
  decided : decided_in l.setup l.trail.entries ≡ decided_in l.setup l.fn.trail.entries;
  env : AllBelow l.setup.size l.env;
  goes : GoesOver l.setup l.fn.trail true l.trail;
  frame : AgreeOutside (drop l.at l.walk.order.items) l.env l.fn.env;
  many : length l.env ≡ length l.fn.env;
  covers : CoversBelow l.setup l.walk l.cell l.at l.fn.env l.fn.trail l.trail l.element;
}
