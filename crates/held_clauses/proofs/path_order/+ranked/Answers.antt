-- Parts are smaller; the heads, the first arguments that differ and those behind them decide.
use Rattle.std.proofs.Common.{ap, sym, subst, ◌∙◌, arith}
use Rattle.fol_core.specs.TermView.{tree_of, tree_list}
use Rattle.held_clauses.specs.Ranks.{IsRanked, same_if}
use Rattle.term_order.specs.Compared.{is_greater_than_each}
use Rattle.term_order.specs.Lpo.{lpo_greater}
use Rattle.term_order.specs.Precedences.{stands_above}
use Rattle.held_clauses.proofs.PathSteps.{each_same, first_nodes, left_nodes, right_nodes, least_same, past_other}
use Rattle.held_clauses.proofs.Ranking.{behind_greater, behind_other, behind_short, no_more, other_greater, over_heads}
use Rattle.held_clauses.proofs.path_order.+ranked.Goals as goal

pub is_above_each-returns-in-Same : goal.is_above_each-returns-in-Same
is_above_each-returns-in-Same t c =
    each_same c.args.precedence.now.rows.items (tree_of c.args.s.now) c.args.ts.now c.in-Some.rest.now c.in-Some.t.now c.in-Some.ensures.cases.0 c.in-Same.ensures

pub past_common-returns-in-Above-clause-past : goal.past_common-returns-in-Above-clause-past
past_common-returns-in-Above-clause-past t c =
    past_other c.args.ss.now c.args.ts.now c.in-Some.us.now c.in-Some-split_first.vs.now c.in-Some.s.now c.in-Some-split_first.t.now c.in-Some.ensures.cases.0 c.in-Some-split_first.ensures.cases.0
    (other_greater c.args.precedence.now.rows.items (tree_of c.in-Some.s.now) (tree_of c.in-Some-split_first.t.now) c.in-Above.ensures)

pub ranked-returns-then-is_above : goal.ranked-returns-then-is_above
ranked-returns-then-is_above t c =
    subst (IsRanked (stands_above c.args.precedence.now.rows.items) (tree_of c.args.s.now) (tree_of c.args.t.now)) (sym c.above_if-then-is_above.ensures)
    (over_heads c.args.precedence.now.rows.items (tree_of c.args.s.now) (tree_of c.args.t.now) c.in-App-App.f.0 c.in-App-App.g.0 c.in-App-App.ss c.in-App-App.ts c.is_above_each.result (ap tree_of c.in-App-App.is-0) (ap tree_of c.in-App-App.is-1) c.if-f-g.false
    (sym c.is_above.ensures ∙ c.if-is_above.true)
    (c.is_above_each.ensures ∙ ap (is_greater_than_each (lpo_greater (stands_above c.args.precedence.now.rows.items)) (tree_of c.args.s.now)) c.as_slice-then-is_above.ensures.trees))

pub ranked_behind-returns-in_default : goal.ranked_behind-returns-in_default
ranked_behind-returns-in_default t c =
    subst (IsRanked (stands_above c.args.precedence.now.rows.items) (tree_of c.args.s.now) (tree_of c.args.t.now)) (sym c.same_if.ensures)
    (subst (λ b. IsRanked (stands_above c.args.precedence.now.rows.items) (tree_of c.args.s.now) (tree_of c.args.t.now) (same_if b)) (sym c.is_empty.ensures)
    (no_more c.args.precedence.now.rows.items (tree_of c.args.s.now) (tree_of c.args.t.now) c.args.us.now c.args.vs.now c.in_default.ensures.cases c.requires.last))

pub ranked_behind-some_at_least-requires : goal.ranked_behind-some_at_least-requires
ranked_behind-some_at_least-requires t c =
    let part = left_nodes (tree_of c.args.s.now) (tree_of c.args.t.now) (tree_list c.args.us.now) (tree_list c.args.vs.now) c.requires.last in
    (omega (arith, part, c.decreases), tt)

pub ranked_behind-returns-in_default-split_first : goal.ranked_behind-returns-in_default-split_first
ranked_behind-returns-in_default-split_first t c =
    subst (IsRanked (stands_above c.args.precedence.now.rows.items) (tree_of c.args.s.now) (tree_of c.args.t.now)) (sym c.above_if.ensures)
    (behind_short c.args.precedence.now.rows.items (tree_of c.args.s.now) (tree_of c.args.t.now) c.args.us.now c.args.vs.now c.in-Some.left.now c.in-Some._first.now c.some_at_least.result c.in-Some.ensures.cases.0 c.in_default-split_first.ensures.cases c.requires.last c.some_at_least.ensures)

pub ranked_behind-is_above_each-requires : goal.ranked_behind-is_above_each-requires
ranked_behind-is_above_each-requires t c =
    let other = right_nodes (tree_of c.args.s.now) (tree_of c.args.t.now) (tree_list c.args.us.now) (tree_list c.args.vs.now) c.requires.last in
    let second = first_nodes c.args.vs.now c.in-Some-split_first.right.now c.in-Some-split_first._other.now c.in-Some-split_first.ensures.cases.0 in
    (omega (arith, other, second, c.decreases), tt)

pub ranked_behind-some_at_least-requires-else-greater : goal.ranked_behind-some_at_least-requires-else-greater
ranked_behind-some_at_least-requires-else-greater t c =
    let part = left_nodes (tree_of c.args.s.now) (tree_of c.args.t.now) (tree_list c.args.us.now) (tree_list c.args.vs.now) c.requires.last in
    let first = first_nodes c.args.us.now c.in-Some.left.now c.in-Some._first.now c.in-Some.ensures.cases.0 in
    (omega (arith, part, first, c.decreases), tt)

pub ranked_behind-returns-then-greater : goal.ranked_behind-returns-then-greater
ranked_behind-returns-then-greater t c =
    subst (IsRanked (stands_above c.args.precedence.now.rows.items) (tree_of c.args.s.now) (tree_of c.args.t.now)) (sym c.above_if-then-greater.ensures)
    (behind_greater c.args.precedence.now.rows.items (tree_of c.args.s.now) (tree_of c.args.t.now) c.args.us.now c.args.vs.now c.in-Some.left.now c.in-Some-split_first.right.now c.in-Some._first.now c.in-Some-split_first._other.now c.args.greater c.is_above_each.result c.in-Some.ensures.cases.0 c.in-Some-split_first.ensures.cases.0 c.requires.last c.requires.first c.if-greater.true c.is_above_each.ensures)

pub ranked_behind-returns-else-greater : goal.ranked_behind-returns-else-greater
ranked_behind-returns-else-greater t c =
    subst (IsRanked (stands_above c.args.precedence.now.rows.items) (tree_of c.args.s.now) (tree_of c.args.t.now)) (sym c.above_if-else-greater.ensures)
    (behind_other c.args.precedence.now.rows.items (tree_of c.args.s.now) (tree_of c.args.t.now) c.args.us.now c.args.vs.now c.in-Some.left.now c.in-Some-split_first.right.now c.in-Some._first.now c.in-Some-split_first._other.now c.args.greater c.some_at_least-else-greater.result c.in-Some.ensures.cases.0 c.in-Some-split_first.ensures.cases.0 c.requires.last c.requires.first c.if-greater.false c.some_at_least-else-greater.ensures)

pub some_at_least-returns-in-Same : goal.some_at_least-returns-in-Same
some_at_least-returns-in-Same t c =
    least_same c.args.precedence.now.rows.items c.args.ss.now c.in-Some.rest.now c.in-Some.s.now (tree_of c.args.t.now) c.in-Some.ensures.cases.0 c.in-Same.ensures
