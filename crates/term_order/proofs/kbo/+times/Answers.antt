-- Arguments have smaller numbers, and no more places than the whole.
use Rattle.std.proofs.Common.{◌≤◌, arith, length, ap}
use Rattle.fol_core.specs.Sizes.{size_of}
use Rattle.fol_core.specs.Tree.{trees_of}
use Rattle.term_bank.specs.Cells.{numbers}
use Rattle.term_bank.proofs.Building.{below_at, below_more}
use Rattle.term_order.specs.Compared.{trees_under}
use Rattle.term_order.proofs.Bounds.{bound_at, bound_below}
use Rattle.term_order.proofs.Sizes.{size_at, times_next, times_all_within}
use Rattle.term_order.proofs.kbo.+times.Goals as goal

pub times_among-times_in-times-requires : goal.times_among-times_in-times-requires
times_among-times_in-times-requires t c =
    let smaller = bound_at c.args.ts.now c.loop-t.t-index record { 0 = 0 } c.loop-t-test.true in
    let size = size_at c.args.bank.now c.args.ts.now c.loop-t.t-index record { 0 = 0 } c.loop-t-test.true in
    (omega (arith, smaller, c.decreases), (below_at (length c.args.bank.now) c.args.ts.now c.loop-t.t-index record { 0 = 0 } c.requires.ts c.loop-t-test.true, omega (arith, size, c.requires.size)))

pub times_among-overflow_add-times : goal.times_among-overflow_add-times
times_among-overflow_add-times t c =
    let next = times_next c.args.bank.now c.args.ts.now c.loop-t.t-index c.args.x record { 0 = 0 } c.loop-t-test.true in
    let all = times_all_within c.args.x (trees_of (trees_under c.args.bank.now c.args.ts.now)) in
    omega (arith, next, all, c.loop-t.invariant, c.times_in-times.ensures, c.requires.size)

pub times_in-times_among-requires : goal.times_in-times_among-requires
times_in-times_among-requires t c =
    let smaller = bound_below c.args.t.0 c.in-App.ts.now c.in-App.ensures.below in
    let within : c.args.t.0 ≤ length c.args.bank.now = omega (arith, c.requires.t) in
    let size = ap size_of c.in-App.ensures.tree in
    (omega (arith, smaller, c.decreases), (below_more c.args.t.0 (length c.args.bank.now) within (numbers c.in-App.ts.now) c.in-App.ensures.below, omega (arith, size, c.requires.size)))
