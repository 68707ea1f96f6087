-- the cells so far have their scores, and all else is as it was
use Rattle.std.proofs.Common.{◌≡◌, ℕ, ◌<◌, true, get_or, length}
use Rattle.cell_choice.specs.Choosing.{is_up_to}
use Rattle.mace_cells.specs.World.{cell_of}
use Rattle.model_tables.specs.Size.{AllBelow}
use Rattle.cell_search.specs.Scores.{trial_score}
use Rattle.cell_search.specs.Viewing.{left_in}
use Rattle.cell_search.proofs.scores.try_cells.Given as goal

abbrev pub invariant-loop-cell : goal.invariant-loop-cell
invariant-loop-cell l = record {
  same : l.trail ≡ l.fn.trail;
  env : AllBelow l.setup.size l.env;
  many : length l.env ≡ length l.fn.env;
  room : length l.scores ≡ length l.fn.scores;
  each : (k : ℕ) → k < l.cell → is_up_to l.fn.trail l.limit k ≡ true → get_or l.scores k 0 ≡ trial_score l.setup (left_in l.setup l.fn.trail) (cell_of l.setup k);
}
