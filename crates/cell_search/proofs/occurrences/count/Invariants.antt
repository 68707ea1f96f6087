-- the clauses so far are counted
use Rattle.std.proofs.Common.{◌≡◌, ℕ, ◌<◌, get_or, length, map, take}
use Rattle.std.specs.Prelude.{count_by}
use Rattle.mace_ground.specs.Instances.{assigned_by}
use Rattle.model_tables.specs.Size.{AllBelow}
use Rattle.plain_search.specs.Closing.{instances_of}
use Rattle.cell_search.specs.Counted.{counts_seen}
use Rattle.cell_search.proofs.occurrences.count.Given as goal

abbrev pub invariant-loop-clause : goal.invariant-loop-clause
invariant-loop-clause l = record {
  env : AllBelow l.setup.size l.env;
  variables : length l.env ≡ length l.fn.env;
  many : length l.scores ≡ length l.fn.scores;
  counts : (k : ℕ) → k < length l.fn.scores → get_or l.scores k 0
      ≡ count_by (λ g. counts_seen l.setup l.trail.entries (assigned_by g.elements) g.clause k) (instances_of l.setup.size (map (λ r. r.1) (take l.clause-index l.clause-items)));
}
