-- The arguments from here on decide, the bindings at the start stand in front, and few were added.
use Rattle.std.proofs.Common.{◌≡◌, ◌≤◌, ◌+◌, ◌*◌, length}
use Rattle.fol_core.specs.Tree.{nodes, nodes_of, trees_of}
use Rattle.fol_core.specs.TermView.{tree_of}
use Rattle.term_matches.specs.Matched.{StandInFront}
use Rattle.term_matches.proofs.Counting.{met_first}
use Rattle.term_matches.proofs.MatchSteps.{match_from}
use Rattle.term_matches.proofs.matches.Matches.+onto.Given as goal

abbrev pub decreases-try_onto : goal.decreases-try_onto
decreases-try_onto l = 3 * nodes (tree_of l.general.now)

abbrev pub decreases-try_all : goal.decreases-try_all
decreases-try_all l = 3 * nodes_of (trees_of l.generals.now) + 2

abbrev pub decreases-try_part : goal.decreases-try_part
decreases-try_part l = 3 * nodes (tree_of l.general.now) + 1

abbrev pub invariant-try_all-loop-i : goal.invariant-try_all-loop-i
invariant-try_all-loop-i l = record {
  decides : match_from l.general-items l.specials-inside.items.items 0 l.fn.self.bindings ≡ match_from l.general-items l.specials-inside.items.items l.i l.self.bindings;
  front : StandInFront l.fn.self.bindings l.self.bindings;
  few : length l.self.bindings ≤ length l.fn.self.bindings + met_first l.general-items l.specials-inside.items.items l.i;
  room : l.self.room ≡ l.fn.self.room;
}
