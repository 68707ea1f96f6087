-- Arguments have smaller numbers, and the first pair that differs decides.
use Rattle.std.proofs.Common.{◌≤◌, ◌∙◌, arith, length, ap}
use Rattle.fol_core.specs.Sizes.{size_of}
use Rattle.term_bank.specs.Cells.{numbers}
use Rattle.term_bank.proofs.Building.{below_at, below_more}
use Rattle.term_order.specs.Precedences.{stands_above, weight_at}
use Rattle.term_order.proofs.Bounds.{bound_at, bound_below}
use Rattle.term_order.proofs.KboHeads.{first_ends, second_ends, pair_decides}
use Rattle.term_order.proofs.Sizes.{size_at}
use Rattle.term_order.proofs.precedence.Precedence.+outweighs.Goals as goal

pub first_outweighs-returns-then-n-ss : goal.first_outweighs-returns-then-n-ss
first_outweighs-returns-then-n-ss t c =
    first_ends (stands_above c.args.self.now.rows.items) (weight_at c.args.self.now.rows.items) c.args.bank.now c.args.ss.now c.args.ts.now c.common_len-n.result c.common_len-n.ensures c.if-n-ss.true

pub first_outweighs-returns-then-n-ts : goal.first_outweighs-returns-then-n-ts
first_outweighs-returns-then-n-ts t c =
    second_ends (stands_above c.args.self.now.rows.items) (weight_at c.args.self.now.rows.items) c.args.bank.now c.args.ss.now c.args.ts.now c.common_len-n.result c.common_len-n.ensures c.if-n-ts.true

pub first_outweighs-returns : goal.first_outweighs-returns
first_outweighs-returns t c =
    c.outweighs.ensures
    ∙ pair_decides (stands_above c.args.self.now.rows.items) (weight_at c.args.self.now.rows.items) c.args.bank.now c.args.ss.now c.args.ts.now c.common_len-n.result c.common_len-n.ensures
    record { 0 = 0 } record { 0 = 0 } c.if-n-ss.false c.if-n-ts.false

pub first_outweighs-outweighs-requires : goal.first_outweighs-outweighs-requires
first_outweighs-outweighs-requires t c =
    let left = bound_at c.args.ss.now c.common_len-n.result record { 0 = 0 } c.if-n-ss.false in
    let right = bound_at c.args.ts.now c.common_len-n.result record { 0 = 0 } c.if-n-ts.false in
    let first = size_at c.args.bank.now c.args.ss.now c.common_len-n.result record { 0 = 0 } c.if-n-ss.false in
    let second = size_at c.args.bank.now c.args.ts.now c.common_len-n.result record { 0 = 0 } c.if-n-ts.false in (
      omega (arith, left, right, c.decreases),
      (
        below_at (length c.args.bank.now) c.args.ss.now c.common_len-n.result record { 0 = 0 } c.requires.ss c.if-n-ss.false,
        (
          below_at (length c.args.bank.now) c.args.ts.now c.common_len-n.result record { 0 = 0 } c.requires.ts c.if-n-ts.false,
          (omega (arith, first, c.requires.first), omega (arith, second, c.requires.second)),
        ),
      ),
    )

pub outweighs-none_oftener_among-requires-clause-ss : goal.outweighs-none_oftener_among-requires-clause-ss
outweighs-none_oftener_among-requires-clause-ss t c =
    below_more c.args.s.0 (length c.args.bank.now) (omega (arith, c.requires.s)) (numbers c.in-App-App.ss.now) c.in-App-App.ensures.below

pub outweighs-none_oftener_among-requires-clause-ts : goal.outweighs-none_oftener_among-requires-clause-ts
outweighs-none_oftener_among-requires-clause-ts t c =
    below_more c.args.t.0 (length c.args.bank.now) (omega (arith, c.requires.t)) (numbers c.in-App-App.ts.now) c.in-App-App.ensures'.below

pub outweighs-none_oftener_among-requires-clause-us : goal.outweighs-none_oftener_among-requires-clause-us
outweighs-none_oftener_among-requires-clause-us t c =
    below_more c.args.t.0 (length c.args.bank.now) (omega (arith, c.requires.t)) (numbers c.in-App-App.ts.now) c.in-App-App.ensures'.below

pub outweighs-first_outweighs-requires : goal.outweighs-first_outweighs-requires
outweighs-first_outweighs-requires t c =
    let left = bound_below c.args.s.0 c.in-App-App.ss.now c.in-App-App.ensures.below in
    let right = bound_below c.args.t.0 c.in-App-App.ts.now c.in-App-App.ensures'.below in
    let within : c.args.s.0 ≤ length c.args.bank.now = omega (arith, c.requires.s) in
    let in_bank : c.args.t.0 ≤ length c.args.bank.now = omega (arith, c.requires.t) in
    let first = ap size_of c.in-App-App.ensures.tree in
    let second = ap size_of c.in-App-App.ensures'.tree in (
      omega (arith, left, right, c.decreases),
      (
        below_more c.args.s.0 (length c.args.bank.now) within (numbers c.in-App-App.ss.now) c.in-App-App.ensures.below,
        (
          below_more c.args.t.0 (length c.args.bank.now) in_bank (numbers c.in-App-App.ts.now) c.in-App-App.ensures'.below,
          (omega (arith, first, c.requires.first), omega (arith, second, c.requires.second)),
        ),
      ),
    )
