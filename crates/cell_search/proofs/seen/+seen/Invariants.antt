-- A term has more nodes than its arguments; the place so far leads to that of all arguments.
use Rattle.std.proofs.Common.{◌≡◌, ◌+◌, ◌^◌, ◌≤◌, drop}
use Rattle.std.specs.Option.{option_and_then}
use Rattle.fol_core.specs.Tree.{trees_of, nodes, nodes_of}
use Rattle.fol_core.specs.TermView.{tree_of, tree_list}
use Rattle.cell_search.specs.Known.{all_seen, place_within}
use Rattle.mace_ground.specs.Instances.{assigned_by}
use Rattle.cell_search.proofs.seen.+seen.Given as goal

abbrev pub decreases-number : goal.decreases-number
decreases-number l = nodes_of (trees_of l.terms.now) + 1

abbrev pub decreases-seen : goal.decreases-seen
decreases-seen l = nodes (tree_of l.term.now)

abbrev pub invariant-number-loop-term : goal.invariant-number-loop-term
invariant-number-loop-term l =
    let e = assigned_by l.env in
    record {
      fits : l.place + 1 ≤ l.size ^ l.term-index;
      leads :
          option_and_then (place_within l.size l.place) (all_seen l.setup l.trail.entries e (trees_of (tree_list (drop l.term-index l.term-items))))
          ≡ option_and_then (place_within l.size 0) (all_seen l.setup l.trail.entries e (trees_of (tree_list l.term-items)));
    }
