-- nothing is lost, nothing decided, and the cells of one value so far have one
use Rattle.std.proofs.Common.{◌≡◌, ℕ, ◌<◌, true, []}
use Rattle.cell_search.specs.Asking.{IsGivenSingle}
use Rattle.cell_search.specs.Following.{Grows, IsFollowed}
use Rattle.cell_search.specs.Searchable.{HasAllCells}
use Rattle.plain_search.specs.Closing.{nothing}
use Rattle.cell_search.specs.Losses.{IsBoard, decided_in}
use Rattle.cell_search.proofs.closing.settle_single.Given as goal

abbrev pub invariant-loop-cell : goal.invariant-loop-cell
invariant-loop-cell l = record {
  grows : Grows l.fn.trail l.trail;
  crossings : l.trail.crossings ≡ l.fn.trail.crossings;
  follows : HasAllCells l.setup → l.fn.trail.crossings ≡ [] → IsFollowed l.setup l.fn.trail nothing true l.trail;
  board : IsBoard l.setup l.trail;
  decided : decided_in l.setup l.trail.entries ≡ decided_in l.setup l.fn.trail.entries;
  given : (k : ℕ) → k < l.cell → IsGivenSingle l.setup l.trail.entries k;
}
