-- Arguments have smaller numbers.
use Rattle.std.proofs.Common.{◌≤◌, arith, length}
use Rattle.term_bank.specs.Cells.{numbers}
use Rattle.term_bank.proofs.Building.{below_at, below_more}
use Rattle.term_order.proofs.Bounds.{bound_at, bound_below}
use Rattle.term_order.proofs.kbo.+oftener.Goals as goal

pub none_oftener_among-none_oftener-requires : goal.none_oftener_among-none_oftener-requires
none_oftener_among-none_oftener-requires t c =
    let smaller = bound_at c.args.us.now c.loop-u.u-index record { 0 = 0 } c.loop-u-test.true in
    let within = below_at (length c.args.bank.now) c.args.us.now c.loop-u.u-index record { 0 = 0 } c.requires.us c.loop-u-test.true in
    (omega (arith, smaller, c.decreases), (c.requires.ss, (c.requires.ts, (within, (c.requires.first, c.requires.second)))))

pub none_oftener-none_oftener_among-requires : goal.none_oftener-none_oftener_among-requires
none_oftener-none_oftener_among-requires t c =
    let smaller = bound_below c.args.u.0 c.in-App.us.now c.in-App.ensures.below in
    let within : c.args.u.0 ≤ length c.args.bank.now = omega (arith, c.requires.u) in
    (omega (arith, smaller, c.decreases), (c.requires.ss, (c.requires.ts, (below_more c.args.u.0 (length c.args.bank.now) within (numbers c.in-App.us.now) c.in-App.ensures.below, (c.requires.first, c.requires.second)))))
