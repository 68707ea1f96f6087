-- Parts are smaller, and no variable stands more often than there are places.
use Rattle.std.proofs.Common.{arith}
use Rattle.fol_core.specs.TermView.{tree_list}
use Rattle.fol_core.specs.Tree.{trees_of}
use Rattle.term_order.proofs.Sizes.{times_all_within}
use Rattle.held_clauses.proofs.Weights.{nodes_at, size_at, times_next}
use Rattle.held_clauses.proofs.weight_order.+times.Goals as goal

pub times_among-times_in-times-requires : goal.times_among-times_in-times-requires
times_among-times_in-times-requires t c =
    let smaller = nodes_at c.args.ts.now c.loop-t.t-index c.t-item.result c.loop-t-test.true c.t-item.is in
    let size = size_at c.args.ts.now c.loop-t.t-index c.t-item.result c.loop-t-test.true c.t-item.is in
    (omega (arith, smaller, c.decreases), omega (arith, size, c.requires))

pub times_among-overflow_add-times : goal.times_among-overflow_add-times
times_among-overflow_add-times t c =
    let next = times_next c.args.ts.now c.loop-t.t-index c.t-item.result c.loop-t-test.true c.t-item.is c.args.x in
    let all = times_all_within c.args.x (trees_of (tree_list c.args.ts.now)) in
    omega (arith, next, all, c.loop-t.invariant, c.times_in-times.ensures, c.requires)
