-- The next terms are the same or differ.
use Rattle.std.proofs.Common.{slice_index_or}
use Rattle.term_bank.specs.Bank.{tree_at}
use Rattle.term_bank.proofs.Building.{below_at}
use Rattle.term_order.proofs.Fronts.{one_more, second_ends, they_differ, different}
use Rattle.term_order.proofs.path.common_len.Goals as goal

pub same-requires-clause-s : goal.same-requires-clause-s
same-requires-clause-s c = below_at _ c.args.ss.now c.loop-i.i record { 0 = 0 } c.requires.ss c.loop-i-test.true

pub same-requires-clause-t : goal.same-requires-clause-t
same-requires-clause-t c = below_at _ c.args.ts.now c.loop-i.i record { 0 = 0 } c.requires.ts c.if-i-ts.false

pub returns-then-i-ts : goal.returns-then-i-ts
returns-then-i-ts c = second_ends c.args.bank.now c.args.ss.now c.args.ts.now c.loop-i.i c.loop-i.invariant c.loop-i-test.true c.if-i-ts.true

pub loop-i-preserved : goal.loop-i-preserved
loop-i-preserved c =
    one_more c.args.bank.now c.args.ss.now c.args.ts.now c.loop-i.i record { 0 = 0 } record { 0 = 0 } c.loop-i.invariant c.loop-i-test.true c.if-i-ts.false
    (c.same.ensures.0 c.if-not-same.false)

pub returns-then-not-same : goal.returns-then-not-same
returns-then-not-same c =
    they_differ c.args.bank.now c.args.ss.now c.args.ts.now c.loop-i.i record { 0 = 0 } record { 0 = 0 } c.loop-i.invariant c.loop-i-test.true c.if-i-ts.false
    (different (tree_at c.args.bank.now (slice_index_or c.args.ss.now c.loop-i.i record { 0 = 0 }).0) (tree_at c.args.bank.now (slice_index_or c.args.ts.now c.loop-i.i record { 0 = 0 }).0) (λ e. (let yes = c.same.ensures.1 e in let no = c.if-not-same.true in cc)))
