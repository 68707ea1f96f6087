use Rattle.std.proofs.Common.{◌∙◌, ◌+◌, ◌++◌, ap, sym, subst, drop}
use Rattle.std.proofs.lemmas.List.{drop_all}
use Rattle.fol_core.specs.TermView.{tree_of, tree_list}
use Rattle.fol_core.specs.declared.term.Term.{Term}
use Rattle.discrim_tree.specs.Nodes.{Reaches, child}
use Rattle.discrim_tree.specs.Paths.{arguments, steps_of}
use Rattle.discrim_tree.specs.declared.edge.Edge.{Edge}
use Rattle.discrim_tree.proofs.Paths.{list_back, next_tree}
use Rattle.discrim_tree.proofs.Trees.{argument_next, arguments_done, term_barred, term_entered}
use Rattle.discrim_tree.proofs.nodes.Nodes.+end_of_term.Goals as goal

pub loop-term-init : goal.loop-term-init
loop-term-init t c = λ fewer rest n g r.
    let nodes = c.args.self.now.items in
    let end = c.in_ok-end.end in
    let is = sym (c.child.ensures ∙ ap (λ (e : Edge). child nodes c.args.at e) c.step_of.ensures) ∙ c.in_ok-end.was in
    let parts = ap tree_list c.deref-term-items.ensures.value ∙ c.terms.view_is ∙ sym (list_back c.in-App.terms) ∙ ap (λ (u : Term). arguments (tree_of u)) (sym c.in-App.is) in
    subst (λ us. Reaches fewer end (steps_of us ++ rest) n) (sym parts)
    (term_entered nodes fewer c.args.at end (tree_of c.args.t.now) rest n g is r)

pub loop-term-preserved : goal.loop-term-preserved
loop-term-preserved t c = λ fewer rest n g r.
    let items = c.deref-term-items.result.now in
    let i = c.loop-term.term-index in
    let left = tree_list (drop (i + 1) items) in
    c.in_ok-end-in-App.ensures fewer (steps_of left ++ rest) n g
    (argument_next fewer c.loop-term.end n (tree_of c.term-item.result) (tree_list (drop i items)) left rest (next_tree items i c.term-item.result c.loop-term-test.true c.term-item.is) (c.loop-term.invariant fewer rest n g r))

pub returns-after-loop-term : goal.returns-after-loop-term
returns-after-loop-term t c = λ fewer rest n g r.
    let items = c.deref-term-items.result.now in
    arguments_done fewer c.loop-term.end n (tree_list (drop c.loop-term.term-index items)) rest (ap tree_list (drop_all c.loop-term.term-index items c.loop-term-test.false)) (c.loop-term.invariant fewer rest n g r)

pub returns-in-Var : goal.returns-in-Var
returns-in-Var t c = λ fewer rest n g r.
    let nodes = c.args.self.now.items in
    let end = c.in_ok-end.end in
    let is = sym (c.child.ensures ∙ ap (λ (e : Edge). child nodes c.args.at e) c.step_of.ensures) ∙ c.in_ok-end.was in
    arguments_done fewer end n (arguments (tree_of c.args.t.now)) rest (ap (λ (u : Term). arguments (tree_of u)) c.in-Var.is)
    (term_entered nodes fewer c.args.at end (tree_of c.args.t.now) rest n g is r)

pub returns-in-Elem : goal.returns-in-Elem
returns-in-Elem t c = λ fewer rest n g r.
    let nodes = c.args.self.now.items in
    let end = c.in_ok-end.end in
    let is = sym (c.child.ensures ∙ ap (λ (e : Edge). child nodes c.args.at e) c.step_of.ensures) ∙ c.in_ok-end.was in
    arguments_done fewer end n (arguments (tree_of c.args.t.now)) rest (ap (λ (u : Term). arguments (tree_of u)) c.in-Elem.is)
    (term_entered nodes fewer c.args.at end (tree_of c.args.t.now) rest n g is r)

pub returns-in_err-end : goal.returns-in_err-end
returns-in_err-end t c = λ fewer rest n g r.
    let nodes = c.args.self.now.items in
    let is = sym (c.child.ensures ∙ ap (λ (e : Edge). child nodes c.args.at e) c.step_of.ensures) ∙ c.in_err-end.was in
    absurd (term_barred nodes fewer c.args.at (tree_of c.args.t.now) rest n g is r)
