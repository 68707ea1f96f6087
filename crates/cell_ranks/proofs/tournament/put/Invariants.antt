-- each node but the one above this is won, and the cell is put
use Rattle.std.proofs.Common.{◌≡◌, ◌*◌, ◌/◌, ◌<◌, ◌≤◌, length, ℕ}
use Rattle.cell_ranks.specs.Tournaments.{IsWon, IsInserted}
use Rattle.cell_ranks.proofs.tournament.put.Given as goal

abbrev pub invariant-loop-at : goal.invariant-loop-at
invariant-loop-at l = record {
  length : length l.nodes.items ≡ 2 * l.places;
  from : 1 ≤ l.at;
  to : l.at < 2 * l.places;
  won : (i : ℕ) → 1 ≤ i → i < l.places → (i ≡ l.at / 2 → ⊥) → IsWon l.scores l.nodes.items i;
  put : IsInserted l.fn.nodes.items l.nodes.items l.places l.place l.fn.cell;
}

abbrev pub decreases-loop-at : goal.decreases-loop-at
decreases-loop-at l = l.at
