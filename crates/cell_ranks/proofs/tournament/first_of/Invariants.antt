-- the winner is that of the best so far and of the nodes between
use Rattle.std.proofs.Common.{◌-◌, ◌≡◌, ◌*◌, ◌<◌, ◌≤◌}
use Rattle.cell_ranks.specs.Tournaments.{winner, winner_from}
use Rattle.cell_ranks.proofs.tournament.first_of.Given as goal

abbrev pub invariant-loop-from : goal.invariant-loop-from
invariant-loop-from l = record {
  order : l.from ≤ l.to;
  some : l.from < l.to → 1 ≤ l.from;
  to : l.to ≤ 2 * l.places;
  best : winner_from l.scores l.nodes l.places l.end ≡ winner l.scores l.best (winner_from l.scores l.nodes l.from (l.to - l.from));
}

abbrev pub decreases-loop-from : goal.decreases-loop-from
decreases-loop-from l = l.to - l.from
