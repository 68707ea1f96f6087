-- An argument has a smaller number.
use Rattle.std.proofs.Common.{◌<◌, arith, slice_index_or}
use Rattle.term_bank.proofs.Building.{below_at}
use Rattle.term_order.proofs.path.+variable.Goals as goal

pub has_variable-requires : goal.has_variable-requires
has_variable-requires t c =
    let smaller : (slice_index_or c.in-App.ts.now c.loop-t.t-index record { 0 = 0 }).0 < c.args.t.0 =
    below_at c.args.t.0 c.in-App.ts.now c.loop-t.t-index _ c.in-App.ensures.below c.loop-t-test.true in
    (omega (arith, smaller, c.decreases), omega (arith, smaller, c.requires))
