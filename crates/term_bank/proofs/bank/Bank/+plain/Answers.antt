-- An argument has a smaller number.
use Rattle.std.proofs.Common.{◌<◌, arith, slice_index_or}
use Rattle.term_bank.proofs.Building.{below_at}
use Rattle.term_bank.proofs.bank.Bank.+plain.Goals as goal

pub plain-requires : goal.plain-requires
plain-requires t c =
    let smaller : (slice_index_or c.in-App.arguments.now c.loop-argument.argument-index record { 0 = 0 }).0 < c.args.id.0 =
    below_at c.args.id.0 c.in-App.arguments.now c.loop-argument.argument-index _ c.in-App.ensures.below c.loop-argument-test.true in
    (omega (arith, smaller, c.decreases), omega (arith, smaller, c.requires))
