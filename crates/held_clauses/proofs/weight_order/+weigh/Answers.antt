-- Parts are smaller.
use Rattle.std.proofs.Common.{arith}
use Rattle.held_clauses.proofs.Weights.{nodes_at, size_at}
use Rattle.held_clauses.proofs.weight_order.+weigh.Goals as goal

pub weigh_all-weigh-weight-requires : goal.weigh_all-weigh-weight-requires
weigh_all-weigh-weight-requires t c =
    let smaller = nodes_at c.args.ts.now c.loop-t.t-index c.t-item.result c.loop-t-test.true c.t-item.is in
    let size = size_at c.args.ts.now c.loop-t.t-index c.t-item.result c.loop-t-test.true c.t-item.is in
    (omega (arith, smaller, c.decreases), omega (arith, size, c.requires))
