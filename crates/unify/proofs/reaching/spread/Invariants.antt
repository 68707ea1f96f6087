-- The arguments so far were reached.
use Rattle.std.proofs.Common.{◌≡◌, take, vec_capacity}
use Rattle.unify.specs.Reaches.{Reaching, Longer, AreReached}
use Rattle.unify.proofs.reaching.spread.Given as goal

abbrev pub invariant-loop-argument : goal.invariant-loop-argument
invariant-loop-argument l = record {
  reaching : Reaching l.bank l.bound.items l.reached.items (vec_capacity l.reached);
  longer : Longer l.fn.reached.items l.reached.items;
  added : AreReached l.bank l.bound.items l.reached.items l.context (take l.argument-index l.arguments);
  room : vec_capacity l.reached ≡ vec_capacity l.fn.reached;
}
