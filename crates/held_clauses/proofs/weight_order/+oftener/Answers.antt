-- Parts are smaller.
use Rattle.std.proofs.Common.{arith}
use Rattle.held_clauses.proofs.Weights.{nodes_at}
use Rattle.held_clauses.proofs.weight_order.+oftener.Goals as goal

pub none_oftener_among-none_oftener-requires : goal.none_oftener_among-none_oftener-requires
none_oftener_among-none_oftener-requires t c =
    let smaller = nodes_at c.args.us.now c.loop-u.u-index c.u-item.result c.loop-u-test.true c.u-item.is in
    (omega (arith, smaller, c.decreases), (c.requires.first, c.requires.second))
