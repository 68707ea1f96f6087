-- the values so far have been tried, and all is as it was
use Rattle.std.proofs.Common.{◌≡◌, ℕ, ◌*◌, ◌≤◌, not, is_none, length}
use Rattle.std.specs.Prelude.{count_by, sum_by}
use Rattle.mace_cells.specs.World.{cell_of, many_cells}
use Rattle.model_tables.specs.Size.{AllBelow}
use Rattle.plain_search.specs.Trying.{assigned, tried_table}
use Rattle.cell_search.specs.Viewing.{left_in, uncrossed}
use Rattle.cell_search.proofs.trying.trials.Given as goal

abbrev pub invariant-loop-value : goal.invariant-loop-value
invariant-loop-value l = record {
  same : l.trail ≡ l.fn.trail;
  env : AllBelow l.setup.size l.env;
  many : length l.env ≡ length l.fn.env;
  assigned : l.assigned ≡ sum_by (λ v. assigned l.setup (left_in l.setup l.fn.trail) (cell_of l.setup l.cell) (tried_table l.setup (left_in l.setup l.fn.trail) (cell_of l.setup l.cell) v)) (uncrossed l.fn.trail l.cell l.value);
  contradicted : l.contradicted ≡ count_by (λ v. is_none (tried_table l.setup (left_in l.setup l.fn.trail) (cell_of l.setup l.cell) v)) (uncrossed l.fn.trail l.cell l.value);
  few : l.assigned ≤ l.value * many_cells l.setup;
  less : l.contradicted ≤ l.value;
}
