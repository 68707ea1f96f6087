-- A term isn't greater than itself, nor than one with a variable that it hasn't.
use Rattle.std.proofs.Common.{sym, ap, ◌∙◌}
use Rattle.fol_core.specs.TermView.{tree_of}
use Rattle.held_clauses.specs.Order.{greater_of}
use Rattle.term_order.specs.Precedences.{stands_above, weight_at}
use Rattle.held_clauses.proofs.Variables.{not_itself, not_without}
use Rattle.held_clauses.proofs.order.is_greater.Goals as goal

pub returns-then-same : goal.returns-then-same
returns-then-same c =
    let rows = c.args.precedence.now.rows.items in
    let is = c.same.ensures.0 c.if-same.true in
    sym (ap (λ s. greater_of c.args.precedence.now s (tree_of c.args.t.now)) is
    ∙ not_itself (stands_above rows) (weight_at rows) (c.symbols_are_ordered.ensures rows) c.lpo_is_order.ensures c.args.precedence.now.order (tree_of c.args.t.now))

pub returns-then-not-has_each_of : goal.returns-then-not-has_each_of
returns-then-not-has_each_of c =
    let rows = c.args.precedence.now.rows.items in
    sym (not_without (stands_above rows) (weight_at rows) (c.symbols_are_ordered.ensures rows) c.lpo_is_order.ensures c.args.precedence.now.order (tree_of c.args.s.now) (tree_of c.args.t.now)
    (sym c.has_each_of.ensures ∙ c.if-not-has_each_of.true))
