-- The name and arity can only stand before here.
use Rattle.std.proofs.Common.{length}
use Rattle.fol_core.proofs.Slots.{IsOnWay}
use Rattle.fol_core.proofs.symbols.find_row.Given as goal

abbrev pub invariant-loop-at : goal.invariant-loop-at
invariant-loop-at l = IsOnWay (length l.heads) l.name l.arity l.rows l.at

abbrev pub decreases-loop-at : goal.decreases-loop-at
decreases-loop-at l = l.at
