-- The tests in turn.
use Rattle.std.proofs.Common.{sym, ◌∙◌}
use Rattle.term_bank.specs.Bank.{tree_at}
use Rattle.term_order.specs.Lpo.{lpo_greater}
use Rattle.term_order.specs.Precedences.{stands_above}
use Rattle.term_order.proofs.Comparing.{they_are_same, first_is_greater, second_is_greater, none_is_greater}
use Rattle.term_order.proofs.precedence.Precedence.lpo.Goals as goal

pub returns-then-same : goal.returns-then-same
returns-then-same c =
    they_are_same (lpo_greater (stands_above c.args.self.now.rows.items)) (tree_at c.args.bank.now c.args.s.0) (tree_at c.args.bank.now c.args.t.0) (c.same.ensures.0 c.if-same.true)

pub returns-then-is_greater : goal.returns-then-is_greater
returns-then-is_greater c =
    first_is_greater (lpo_greater (stands_above c.args.self.now.rows.items)) (tree_at c.args.bank.now c.args.s.0) (tree_at c.args.bank.now c.args.t.0)
    (λ e. (let yes = c.same.ensures.1 e in let no = c.if-same.false in cc)) (sym c.is_greater.ensures ∙ c.if-is_greater.true)

pub returns-then-is_greater-2 : goal.returns-then-is_greater-2
returns-then-is_greater-2 c =
    second_is_greater (lpo_greater (stands_above c.args.self.now.rows.items)) (tree_at c.args.bank.now c.args.s.0) (tree_at c.args.bank.now c.args.t.0)
    (λ e. (let yes = c.same.ensures.1 e in let no = c.if-same.false in cc)) (sym c.is_greater.ensures ∙ c.if-is_greater.false) (sym c.is_greater-2.ensures ∙ c.if-is_greater-2.true)

pub returns : goal.returns
returns c =
    none_is_greater (lpo_greater (stands_above c.args.self.now.rows.items)) (tree_at c.args.bank.now c.args.s.0) (tree_at c.args.bank.now c.args.t.0)
    (λ e. (let yes = c.same.ensures.1 e in let no = c.if-same.false in cc)) (sym c.is_greater.ensures ∙ c.if-is_greater.false) (sym c.is_greater-2.ensures ∙ c.if-is_greater-2.false)
