-- The nodes so far lead to nothing else.
use Rattle.std.proofs.Common.{◌≡◌, ◌≤◌, ◌-◌, ◌∷◌, List, length, vec_capacity}
use Rattle.unify.specs.Reaches.{Reaching, IsClosed}
use Rattle.unify.specs.declared.spot.Spot.{Spot}
use Rattle.unify.proofs.Closing.{Done}
use Rattle.unify.proofs.reaching.reach.Given as goal

abbrev pub invariant-loop-done : goal.invariant-loop-done
invariant-loop-done l = record {
  reaching : Reaching l.bank l.bound.items l.reached.items (vec_capacity l.reached);
  starts : (rest : List Spot) × (l.reached.items ≡ l.fn.spot ∷ rest);
  closed : Done (IsClosed l.bank l.bound.items l.reached.items) l.reached.items l.done;
  within : l.done ≤ length l.reached.items;
  room : vec_capacity l.reached ≡ vec_capacity l.fn.reached;
}

abbrev pub decreases-loop-done : goal.decreases-loop-done
decreases-loop-done l = vec_capacity l.reached - l.done
