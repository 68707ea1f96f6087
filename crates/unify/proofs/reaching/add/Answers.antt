-- There is room for a node that wasn't reached before.
use Rattle.std.proofs.Common.{subst, sym, ◌<◌, length, arith, vec_capacity}
use Rattle.unify.specs.Reaches.{Adds}
use Rattle.unify.proofs.Closing.{room_left, is_added_new}
use Rattle.unify.proofs.reaching.add.Goals as goal

pub walk-next-requires-clause-spot : goal.walk-next-requires-clause-spot
walk-next-requires-clause-spot c = c.requires.reaching.parts.spots c.args.spot c.requires.inside

pub push_reserved-requires : goal.push_reserved-requires
push_reserved-requires c =
    let lt : length c.args.reached.now.items < vec_capacity c.args.reached.now =
    room_left c.args.bank.now c.args.bound.now.items c.args.reached.now.items (vec_capacity c.args.reached.now) c.args.spot c.walk-next.result c.requires c.walk-next.ensures.result c.if-not-is_among.ensures.1 in
    omega (arith, lt, c.args.reached.now.ok.0)

pub returns-then-not-is_among-clause-adds : goal.returns-then-not-is_among-clause-adds
returns-then-not-is_among-clause-adds c =
    subst (λ n. Adds c.args.bank.now c.args.bound.now.items c.args.reached.now.items c.push_reserved.new.self.items n c.args.spot) (sym c.push_reserved.ensures.capacity)
    (is_added_new c.args.bank.now c.args.bound.now.items c.args.reached.now.items c.push_reserved.new.self.items (vec_capacity c.args.reached.now) c.args.spot c.walk-next.result
    c.requires c.walk-next.ensures.result c.if-not-is_among.ensures.1 c.push_reserved.ensures.items)
