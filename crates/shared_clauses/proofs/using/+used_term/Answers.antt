-- An argument more, and all under their symbol.
use Rattle.std.proofs.Common.{◌≡◌, ◌+◌, ◌∙◌, arith, IfOk, ap, sym, subst}
use Rattle.fol_core.specs.Substitutions.{substitute}
use Rattle.fol_core.specs.TermView.{tree_of, tree_list}
use Rattle.fol_core.specs.Tree.{nodes, nodes_of, trees_of}
use Rattle.fol_core.specs.declared.term.Term.{Term}
use Rattle.shared_clauses.specs.Bound.{bound_in}
use Rattle.term_bank.specs.Bank.{IsAt}
use Rattle.shared_clauses.proofs.BoundSteps.{bound_more, item_nodes}
use Rattle.shared_clauses.proofs.PutSteps.{all_put, arguments_next}
use Rattle.shared_clauses.proofs.UsedSteps.{used_with}
use Rattle.shared_clauses.proofs.using.+used_term.Goals as goal

pub used_term-requires : goal.used_term-requires
used_term-requires t c =
    let whole : nodes (tree_of c.args.term.now) ≡ nodes_of (trees_of c.in-App.terms) + 2 = ap (λ (x : Term). nodes (tree_of x)) c.in-App.is in
    let same : nodes_of (trees_of (tree_list c.deref-term-items.result.now)) ≡ nodes_of (trees_of c.in-App.terms) = ap (λ ts. nodes_of (trees_of (tree_list ts))) c.deref-term-items.ensures.value ∙ ap (λ ts. nodes_of (trees_of ts)) c.terms.view_is in
    let part = item_nodes c.deref-term-items.result.now c.loop-term.term-index c.term-item.result c.loop-term-test.true c.term-item.is in
    (omega (arith, whole, same, part, c.decreases), bound_more c.args.bank.now c.loop-term.bank c.args.bindings.now c.loop-term.invariant.grows c.requires)

pub loop-term-preserved : goal.loop-term-preserved
loop-term-preserved t c =
    arguments_next (used_with (tree_of c.args.general.now) c.args.fresh) c.args.bindings.now c.args.bank.now c.loop-term.bank c.used_term.new.bank c.deref-term-items.result.now c.loop-term.term-index c.term-item.result c.loop-term.made.items c.push.new.self.items c.in_ok-used_term-in-App.field-0 c.loop-term-test.true c.term-item.is
    c.requires c.loop-term.invariant c.in_ok-used_term-in-App.ensures.grows c.in_ok-used_term-in-App.ensures.term c.in_ok-push-in-App.ensures.items

pub returns-after-loop-term-clause-term : goal.returns-after-loop-term-clause-term
returns-after-loop-term-clause-term t c =
    let s = used_with (tree_of c.args.general.now) c.args.fresh (bound_in c.args.bank.now c.args.bindings.now) in
    subst (λ u. IfOk c.apply.result (λ id. IsAt c.apply.new.self id.0 u)) (ap (λ t. substitute s (tree_of t)) (sym c.in-App.is))
    (all_put c.apply.result s c.in-App.f.0 c.args.bank.now c.loop-term.bank c.apply.new.self c.deref-term-items.result.now c.terms.inside.items.items c.in-App.terms c.as_slice.result.now c.loop-term.made.items c.loop-term.term-index c.as_slice.ensures.value c.loop-term.invariant c.apply.ensures.term
    c.loop-term-test.false c.deref-term-items.ensures.value c.terms.view_is)
