-- none of the literals so far is one
use Rattle.std.proofs.Common.{◌≡◌, false, map, take}
use Rattle.std.specs.List.{list_any}
use Rattle.fol_core.specs.ClauseView.{literal_of}
use Rattle.mace_ground.specs.Instances.{assigned_by}
use Rattle.cell_search.specs.Counted.{true_seen}
use Rattle.cell_search.proofs.occurrences.is_true.Given as goal

abbrev pub invariant-loop-literal : goal.invariant-loop-literal
invariant-loop-literal l = list_any (true_seen l.setup l.trail.entries (assigned_by l.env)) (map literal_of (take l.literal-index l.literals)) ≡ false
