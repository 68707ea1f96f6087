use Rattle.std.proofs.Common.{◌∙◌, ap, sym, [], ◌∷◌, ◌++◌, drop}
use Rattle.std.proofs.lemmas.List.{drop_all}
use Rattle.fol_core.specs.TermView.{tree_of, tree_list}
use Rattle.fol_core.specs.declared.term.Term.{Term}
use Rattle.discrim_tree.specs.Paths.{arguments, path_of}
use Rattle.discrim_tree.specs.declared.edge.Edge.{Edge}
use Rattle.discrim_tree.proofs.Paths.{list_back, step_added, leaf_added, term_added, all_added, next_tree}
use Rattle.discrim_tree.proofs.edge.+add_steps.Goals as goal

pub loop-term-init : goal.loop-term-init
loop-term-init t c =
    let path = c.args.path.now.items in
    let parts = ap tree_list c.deref-term-items.ensures.value ∙ c.terms.view_is ∙ sym (list_back c.in-App.terms) ∙ ap (λ (t : Term). arguments (tree_of t)) (sym c.in-App.is) in
    step_added path c.push.new.self.items (tree_of c.args.t.now) (tree_list c.deref-term-items.result.now) (c.in_ok-push.ensures.items ∙ ap (λ (e : Edge). path ++ e ∷ []) c.step_of.ensures) parts

pub loop-term-preserved : goal.loop-term-preserved
loop-term-preserved t c =
    let items = c.deref-term-items.result.now in
    term_added c.loop-term.path.items c.add_steps.new.path.items (c.args.path.now.items ++ path_of (tree_of c.args.t.now)) (tree_of c.term-item.result) (tree_list (drop c.loop-term.term-index items)) _
    c.loop-term.invariant (next_tree items c.loop-term.term-index c.term-item.result c.loop-term-test.true c.term-item.is) c.in_ok-add_steps-in-App.ensures

pub returns-after-loop-term : goal.returns-after-loop-term
returns-after-loop-term t c =
    let items = c.deref-term-items.result.now in
    all_added c.loop-term.path.items (c.args.path.now.items ++ path_of (tree_of c.args.t.now)) (tree_list (drop c.loop-term.term-index items)) c.loop-term.invariant
    (ap tree_list (drop_all c.loop-term.term-index items c.loop-term-test.false))

pub returns-in-Var : goal.returns-in-Var
returns-in-Var t c =
    let path = c.args.path.now.items in
    leaf_added path c.push.new.self.items (tree_of c.args.t.now) (c.in_ok-push.ensures.items ∙ ap (λ (e : Edge). path ++ e ∷ []) c.step_of.ensures) (ap (λ (t : Term). arguments (tree_of t)) (sym c.in-Var.is))

pub returns-in-Elem : goal.returns-in-Elem
returns-in-Elem t c =
    let path = c.args.path.now.items in
    leaf_added path c.push.new.self.items (tree_of c.args.t.now) (c.in_ok-push.ensures.items ∙ ap (λ (e : Edge). path ++ e ∷ []) c.step_of.ensures) (ap (λ (t : Term). arguments (tree_of t)) (sym c.in-Elem.is))
