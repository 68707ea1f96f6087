-- each side of the literals so far is counted once
use Rattle.std.proofs.Common.{◌≡◌, ℕ, ◌+◌, ◌<◌, cond, get_or, length, map, take}
use Rattle.std.specs.List.{list_any}
use Rattle.fol_core.specs.ClauseView.{literal_of}
use Rattle.mace_ground.specs.Instances.{assigned_by}
use Rattle.cell_search.specs.Counted.{side_seen}
use Rattle.cell_search.proofs.occurrences.count_instance.Given as goal

abbrev pub invariant-loop-at : goal.invariant-loop-at
invariant-loop-at l = record {
  many : length l.scores ≡ length l.fn.scores;
  added : (k : ℕ) → k < length l.fn.scores → get_or l.scores k 0 ≡ get_or l.fn.scores k 0 + cond (list_any (side_seen l.setup l.trail.entries (assigned_by l.env) k) (map literal_of (take l.at l.literals))) 1 0;
}
