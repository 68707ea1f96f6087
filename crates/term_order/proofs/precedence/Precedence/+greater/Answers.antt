-- Subterms have smaller numbers, and the heads decide.
use Rattle.std.proofs.Common.{◌≤◌, ◌+◌, arith, length, ◌∙◌, sym}
use Rattle.term_bank.specs.Cells.{numbers}
use Rattle.term_bank.proofs.Building.{below_at, below_more}
use Rattle.term_order.proofs.Bounds.{bound_at, bound_below, below_rest, bound_rest}
use Rattle.term_order.specs.Precedences.{stands_above}
use Rattle.term_order.proofs.Walks.{least_same, least_greater, least_behind}
use Rattle.term_order.proofs.Heads.{above_heads, within_long, within_short, within_greater, within_other}
use Rattle.term_order.proofs.precedence.Precedence.+greater.Goals as goal

pub is_above_each-is_greater-requires : goal.is_above_each-is_greater-requires
is_above_each-is_greater-requires t c =
    let smaller = bound_at c.args.ts.now c.loop-t.t-index record { 0 = 0 } c.loop-t-test.true in
    (omega (arith, smaller, c.decreases), (c.requires.s, below_at (length c.args.bank.now) c.args.ts.now c.loop-t.t-index record { 0 = 0 } c.requires.ts c.loop-t-test.true))

pub is_greater-some_at_least-requires : goal.is_greater-some_at_least-requires
is_greater-some_at_least-requires t c =
    let smaller = bound_below c.args.s.0 c.in-App-Elem.ss.now c.in-App-Elem.ensures.below in
    let within : c.args.s.0 ≤ length c.args.bank.now = omega (arith, c.requires.s) in
    (omega (arith, smaller, c.decreases), (below_more c.args.s.0 (length c.args.bank.now) within (numbers c.in-App-Elem.ss.now) c.in-App-Elem.ensures.below, c.requires.t))

pub is_greater-is_above_each-requires : goal.is_greater-is_above_each-requires
is_greater-is_above_each-requires t c =
    let smaller = bound_below c.args.t.0 c.in-App-App.ts.now c.in-App-App.ensures'.below in
    let within : c.args.t.0 ≤ length c.args.bank.now = omega (arith, c.requires.t) in
    (omega (arith, smaller, c.decreases), (c.requires.s, below_more c.args.t.0 (length c.args.bank.now) within (numbers c.in-App-App.ts.now) c.in-App-App.ensures'.below))

pub is_greater-some_at_least-requires-else-is_above : goal.is_greater-some_at_least-requires-else-is_above
is_greater-some_at_least-requires-else-is_above t c =
    let smaller = bound_below c.args.s.0 c.in-App-App.ss.now c.in-App-App.ensures.below in
    let within : c.args.s.0 ≤ length c.args.bank.now = omega (arith, c.requires.s) in
    (omega (arith, smaller, c.decreases), (below_more c.args.s.0 (length c.args.bank.now) within (numbers c.in-App-App.ss.now) c.in-App-App.ensures.below, c.requires.t))

pub some_at_least-same-requires-clause-s : goal.some_at_least-same-requires-clause-s
some_at_least-same-requires-clause-s t c = below_at (length c.args.bank.now) c.args.ss.now c.loop-s.s-index record { 0 = 0 } c.requires.ss c.loop-s-test.true

pub is_greater_within-common_len-n-requires-clause-ss : goal.is_greater_within-common_len-n-requires-clause-ss
is_greater_within-common_len-n-requires-clause-ss t c = below_more c.args.s.0 (length c.args.bank.now) (omega (arith, c.requires.s)) (numbers c.args.ss.now) c.requires.ss

pub is_greater_within-common_len-n-requires-clause-ts : goal.is_greater_within-common_len-n-requires-clause-ts
is_greater_within-common_len-n-requires-clause-ts t c = below_more c.args.t.0 (length c.args.bank.now) (omega (arith, c.requires.t)) (numbers c.args.ts.now) c.requires.ts

pub some_at_least-is_greater-requires : goal.some_at_least-is_greater-requires
some_at_least-is_greater-requires t c =
    let smaller = bound_at c.args.ss.now c.loop-s.s-index record { 0 = 0 } c.loop-s-test.true in
    (omega (arith, smaller, c.decreases), (below_at (length c.args.bank.now) c.args.ss.now c.loop-s.s-index record { 0 = 0 } c.requires.ss c.loop-s-test.true, c.requires.t))

pub is_greater_within-some_at_least-requires : goal.is_greater_within-some_at_least-requires
is_greater_within-some_at_least-requires t c =
    let smaller = bound_rest c.args.s.0 c.args.ss.now c.common_len-n.result c.requires.ss in
    let within : c.args.s.0 ≤ length c.args.bank.now = omega (arith, c.requires.s) in
    (omega (arith, smaller, c.decreases), (below_rest (length c.args.bank.now) c.args.ss.now c.common_len-n.result (below_more c.args.s.0 (length c.args.bank.now) within (numbers c.args.ss.now) c.requires.ss), c.requires.t))

pub is_greater_within-is_above_each-requires : goal.is_greater_within-is_above_each-requires
is_greater_within-is_above_each-requires t c =
    let smaller = bound_rest c.args.t.0 c.args.ts.now (c.common_len-n.result + 1) c.requires.ts in
    let within : c.args.t.0 ≤ length c.args.bank.now = omega (arith, c.requires.t) in
    (omega (arith, smaller, c.decreases), (c.requires.s, below_rest (length c.args.bank.now) c.args.ts.now (c.common_len-n.result + 1) (below_more c.args.t.0 (length c.args.bank.now) within (numbers c.args.ts.now) c.requires.ts)))

pub is_greater_within-some_at_least-requires-else-is_greater : goal.is_greater_within-some_at_least-requires-else-is_greater
is_greater_within-some_at_least-requires-else-is_greater t c =
    let smaller = bound_rest c.args.s.0 c.args.ss.now (c.common_len-n.result + 1) c.requires.ss in
    let within : c.args.s.0 ≤ length c.args.bank.now = omega (arith, c.requires.s) in
    (omega (arith, smaller, c.decreases), (below_rest (length c.args.bank.now) c.args.ss.now (c.common_len-n.result + 1) (below_more c.args.s.0 (length c.args.bank.now) within (numbers c.args.ss.now) c.requires.ss), c.requires.t))

pub is_greater_within-is_greater-requires : goal.is_greater_within-is_greater-requires
is_greater_within-is_greater-requires t c =
    let left = below_at c.args.s.0 c.args.ss.now c.common_len-n.result record { 0 = 0 } c.requires.ss c.if-n-ss.false in
    let right = below_at c.args.t.0 c.args.ts.now c.common_len-n.result record { 0 = 0 } c.requires.ts c.if-n-ts.false in
    (omega (arith, left, right, c.decreases), (omega (arith, left, c.requires.s), omega (arith, right, c.requires.t)))

pub is_greater_within-returns-then-n-ss : goal.is_greater_within-returns-then-n-ss
is_greater_within-returns-then-n-ss t c =
    within_long c.args.self.now.rows.items c.args.bank.now c.args.s.0 c.args.ss.now c.args.t.0 c.args.ts.now c.common_len-n.result c.requires.heads c.common_len-n.ensures c.if-n-ss.true

pub is_greater_within-returns-then-n-ts : goal.is_greater_within-returns-then-n-ts
is_greater_within-returns-then-n-ts t c =
    c.some_at_least.ensures
    ∙ within_short c.args.self.now.rows.items c.args.bank.now c.args.s.0 c.args.ss.now c.args.t.0 c.args.ts.now c.common_len-n.result c.requires.heads c.common_len-n.ensures c.if-n-ts.true

pub is_greater_within-returns-then-is_greater : goal.is_greater_within-returns-then-is_greater
is_greater_within-returns-then-is_greater t c =
    c.is_above_each.ensures
    ∙ within_greater c.args.self.now.rows.items c.args.bank.now c.args.s.0 c.args.ss.now c.args.t.0 c.args.ts.now c.common_len-n.result c.requires.heads c.common_len-n.ensures
    c.if-n-ss.false c.if-n-ts.false record { 0 = 0 } record { 0 = 0 } (sym c.is_greater.ensures ∙ c.if-is_greater.true)

pub is_greater_within-returns-else-is_greater : goal.is_greater_within-returns-else-is_greater
is_greater_within-returns-else-is_greater t c =
    c.some_at_least-else-is_greater.ensures
    ∙ within_other c.args.self.now.rows.items c.args.bank.now c.args.s.0 c.args.ss.now c.args.t.0 c.args.ts.now c.common_len-n.result c.requires.heads c.common_len-n.ensures
    c.if-n-ss.false c.if-n-ts.false record { 0 = 0 } record { 0 = 0 } (sym c.is_greater.ensures ∙ c.if-is_greater.false)

pub is_greater-returns-then-is_above : goal.is_greater-returns-then-is_above
is_greater-returns-then-is_above t c =
    c.is_above_each.ensures
    ∙ above_heads c.args.self.now.rows.items c.args.bank.now c.args.s.0 c.args.t.0 c.in-App-App.f.0 c.in-App-App.g.0 c.in-App-App.ss.now c.in-App-App.ts.now c.in-App-App.ensures.tree c.in-App-App.ensures'.tree
    (sym c.is_above.ensures ∙ c.if-is_above.true)

pub some_at_least-returns-then-same : goal.some_at_least-returns-then-same
some_at_least-returns-then-same t c =
    sym (c.loop-s.invariant
    ∙ least_same c.args.bank.now c.args.ss.now c.loop-s.s-index (stands_above c.args.self.now.rows.items) _ record { 0 = 0 } c.loop-s-test.true (c.same.ensures.0 c.if-same.true))

pub some_at_least-returns-then-is_greater : goal.some_at_least-returns-then-is_greater
some_at_least-returns-then-is_greater t c =
    sym (c.loop-s.invariant
    ∙ least_greater c.args.bank.now c.args.ss.now c.loop-s.s-index (stands_above c.args.self.now.rows.items) _ record { 0 = 0 } c.loop-s-test.true (sym c.is_greater.ensures ∙ c.if-is_greater.true))

pub some_at_least-loop-s-preserved : goal.some_at_least-loop-s-preserved
some_at_least-loop-s-preserved t c =
    c.loop-s.invariant
    ∙ least_behind c.args.bank.now c.args.ss.now c.loop-s.s-index (stands_above c.args.self.now.rows.items) _ record { 0 = 0 } c.loop-s-test.true
    (λ e. (let yes = c.same.ensures.1 e in let no = c.if-same.false in cc)) (sym c.is_greater.ensures ∙ c.if-is_greater.false)
