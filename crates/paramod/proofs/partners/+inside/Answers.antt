use Rattle.std.proofs.Common.{◌≡◌, List, ap, sym, ◌∙◌, arith}
use Rattle.fol_core.specs.TermView.{tree_of, tree_list}
use Rattle.fol_core.specs.Tree.{Tree, app, trees_of}
use Rattle.fol_core.specs.declared.term.Term.{Term}
use Rattle.paramod.specs.Partners.{replacing}
use Rattle.paramod.proofs.Gathered.{none_asked, next_term, each_term, of_element, of_application}
use Rattle.paramod.proofs.Paths.{argument_nodes}
use Rattle.paramod.proofs.partners.+inside.Goals as goal

pub add_inside-returns-in_ok-add_near_side-in-Elem : goal.add_inside-returns-in_ok-add_near_side-in-Elem
add_inside-returns-in_ok-add_near_side-in-Elem t c =
    of_element (replacing c.args.held.now) (tree_of c.args.term.now) _ c.args.numbers.now.items _ (ap tree_of c.in-Elem.is) c.in_ok-add_near_side-in-Elem.ensures

pub add_inside-returns-in_ok-add_inside_each-in-App : goal.add_inside-returns-in_ok-add_inside_each-in-App
add_inside-returns-in_ok-add_inside_each-in-App t c =
    let items = c.deref.result.now in
    let shape : app c.in-App.field-0.0 (trees_of (tree_list items)) ≡ tree_of c.args.term.now =
    ap (λ (us : List Term). app c.in-App.field-0.0 (trees_of (tree_list us))) c.deref.ensures.value ∙ ap (λ (ts : List Tree). app c.in-App.field-0.0 (trees_of ts)) c.terms.view_is
    ∙ ap tree_of (sym c.in-App.is) in
    of_application (replacing c.args.held.now) (tree_of c.args.term.now) c.in-App.field-0.0 (trees_of (tree_list items)) c.args.numbers.now.items c.add_near_side-in-App.new.numbers.items _ shape
    c.in_ok-add_near_side-in-App.ensures c.in_ok-add_inside_each-in-App.ensures

pub add_inside_each-loop-term-init : goal.add_inside_each-loop-term-init
add_inside_each-loop-term-init t c = none_asked c.args.numbers.now.items

pub add_inside_each-loop-term-preserved : goal.add_inside_each-loop-term-preserved
add_inside_each-loop-term-preserved t c =
    next_term (replacing c.args.held.now) c.args.terms.now c.loop-term.term-index c.term-item.result c.args.numbers.now.items c.loop-term.numbers.items _ (omega arith) c.term-item.is
    c.loop-term.invariant c.in_ok-add_inside.ensures

pub add_inside_each-returns : goal.add_inside_each-returns
add_inside_each-returns t c =
    each_term (replacing c.args.held.now) c.args.terms.now c.loop-term.term-index c.args.numbers.now.items c.loop-term.numbers.items (omega arith) c.loop-term.invariant

pub add_inside_each-add_inside-requires : goal.add_inside_each-add_inside-requires
add_inside_each-add_inside-requires t c =
    let part = argument_nodes c.args.terms.now c.loop-term.term-index c.term-item.result (omega arith) c.term-item.is in
    (omega (arith, c.decreases, part), tt)
