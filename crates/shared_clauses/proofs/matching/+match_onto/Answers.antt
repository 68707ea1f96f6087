-- Arguments one after the other.
use Rattle.std.proofs.Common.{◌≡◌, ◌+◌, ◌∙◌, length, refl, ap, arith}
use Rattle.fol_core.specs.TermView.{tree_of, tree_list}
use Rattle.fol_core.specs.Tree.{nodes, nodes_of, trees_of}
use Rattle.fol_core.specs.declared.term.Term.{Term}
use Rattle.shared_clauses.specs.Bound.{bound_in}
use Rattle.term_bank.specs.Bank.{tree_at}
use Rattle.unifiers.specs.Matching.{matched}
use Rattle.shared_clauses.proofs.BoundSteps.{argument_below, item_nodes, match_uneven, match_whole}
use Rattle.shared_clauses.proofs.matching.+match_onto.Goals as goal

pub returns-then-len-arguments : goal.returns-then-len-arguments
returns-then-len-arguments t c =
    let bs = bound_in c.args.bank.now c.args.bindings.now.items in
    ap (λ (x : Term). matched (tree_of x) (tree_at c.args.bank.now c.args.id.0) bs) c.in-App.is
    ∙ match_whole c.args.bank.now c.in-App.f.0 c.terms.inside.items.items c.terms.inside.items.items c.in-App.terms c.in-Some.arguments.now (tree_at c.args.bank.now c.args.id.0) bs c.in-Some.ensures.tree refl c.terms.view_is
    ∙ match_uneven c.args.bank.now c.terms.inside.items.items c.in-Some.arguments.now bs (λ e. c.if-len-arguments.true (omega (arith, e, c.len.ensures, c.terms.inside.items.ok.0)))

pub match_onto-requires : goal.match_onto-requires
match_onto-requires t c =
    let whole : nodes (tree_of c.args.general.now) ≡ nodes_of (trees_of c.in-App.terms) + 2 = ap (λ (x : Term). nodes (tree_of x)) c.in-App.is in
    let same : nodes_of (trees_of (tree_list c.deref-term-items.result.now)) ≡ nodes_of (trees_of c.in-App.terms) = ap (λ ts. nodes_of (trees_of (tree_list ts))) c.deref-term-items.ensures.value ∙ ap (λ ts. nodes_of (trees_of ts)) c.terms.view_is in
    let part = item_nodes c.deref-term-items.result.now c.loop-i.i c.term-item.result c.loop-i-test.true c.term-item.is in
    (omega (arith, whole, same, part, c.decreases), (argument_below (length c.args.bank.now) c.in-Some.arguments.now c.loop-i.i (record { 0 = 0 }) (omega (arith, c.loop-i-test.true, c.len.ensures, c.if-len-arguments.false, c.terms.inside.items.ok.0, ap length c.deref-term-items.ensures.value)) c.in-Some.ensures.within, c.loop-i.invariant.below))
