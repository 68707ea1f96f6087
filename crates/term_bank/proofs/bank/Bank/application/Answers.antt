-- The arguments are terms of the bank; at the end all are counted.
use Rattle.std.proofs.Common.{◌≤◌, length, arith}
use Rattle.term_bank.proofs.Building.{below_at, counted}
use Rattle.term_bank.proofs.bank.Bank.application.Goals as goal

pub size-requires : goal.size-requires
size-requires c = below_at _ c.args.arguments.now c.loop-argument.argument-index _ c.requires c.loop-argument-test.true

pub depth-requires : goal.depth-requires
depth-requires c = below_at _ c.args.arguments.now c.loop-argument.argument-index _ c.requires c.loop-argument-test.true

pub returns-in-Some : goal.returns-in-Some
returns-in-Some c =
    let i = c.loop-argument.invariant in
    let all : length c.args.arguments.now ≤ c.loop-argument.argument-index = omega (arith, c.loop-argument-test.false) in
    counted c.args.self.now c.args.arguments.now c.loop-argument.argument-index c.loop-argument.size c.loop-argument.depth c.in-Some.depth c.args.f all i.0 i.1 i.2 c.in-Some.ensures.1
