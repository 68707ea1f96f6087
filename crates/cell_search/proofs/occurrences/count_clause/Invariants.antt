-- the instances so far are counted
use Rattle.std.proofs.Common.{◌≡◌, ℕ, ◌+◌, ◌<◌, get_or, length, map}
use Rattle.std.specs.Prelude.{count_by}
use Rattle.std.specs.List.{range_with_len}
use Rattle.mace_ground.specs.Cells.{digits}
use Rattle.mace_ground.specs.Instances.{assigned_by, variables_in}
use Rattle.model_tables.specs.Size.{AllBelow}
use Rattle.plain_search.specs.Closing.{ground}
use Rattle.cell_search.specs.Counted.{counts_seen}
use Rattle.cell_search.proofs.occurrences.count_clause.Given as goal

abbrev pub invariant-loop-number : goal.invariant-loop-number
invariant-loop-number l = record {
  env : AllBelow l.setup.size l.env;
  variables : length l.env ≡ length l.fn.env;
  many : length l.scores ≡ length l.fn.scores;
  added : (k : ℕ) → k < length l.fn.scores → get_or l.scores k 0
      ≡ get_or l.fn.scores k 0 + count_by (λ g. counts_seen l.setup l.trail.entries (assigned_by g.elements) g.clause k) (map (λ j. ground l.clause (digits l.setup.size (variables_in l.clause) j)) (range_with_len 0 l.number));
}
