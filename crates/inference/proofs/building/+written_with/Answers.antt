-- An argument more, the one of the number or another one; all under their symbol; and a term without arguments.
use Rattle.std.proofs.Common.{◌∙◌, ap, ap₂, sym, subst}
use Rattle.fol_core.specs.Substitutions.{substitute}
use Rattle.fol_core.specs.TermView.{tree_of}
use Rattle.fol_core.specs.Tree.{app, elem, trees_of}
use Rattle.substitutions.specs.Bindings.{by_bindings}
use Rattle.inference.specs.Left.{changed}
use Rattle.inference.proofs.Changed.{written_changed, written_here, written_there}
use Rattle.inference.proofs.WriteSteps.{moved, written_of}
use Rattle.term_unifiers.specs.Renamed.{own_among}
use Rattle.term_unifiers.specs.Written.{IsWritten}
use Rattle.term_unifiers.proofs.Written.{element_written, written_as}
use Rattle.inference.proofs.building.+written_with.Goals.{then-place-number+in_ok-written-in-App, else-place-number+in_ok-written-in-App-2}
use Rattle.inference.proofs.building.+written_with.Goals as goal

pub loop-i-preserved : goal.loop-i-preserved
loop-i-preserved t c =
    let own = own_among c.args.many (by_bindings c.args.unifier.now) in
    let s = own c.args.parent in
    let new = substitute (own c.args.change.now.parent) (tree_of c.args.change.now.term.now) in
    elim c.if-place-number.branch [
      | then-place-number+in_ok-written-in-App w ↦
          written_here s c.in-Some.rest.now new c.deref-part-items.result.now c.loop-i.i c.in-Some.number.now c.part-item.result c.args.numbers.now c.loop-i.numbers c.if-place-number.numbers c.loop-i.made c.push.new.self
          (tree_of c.if-place-number.written) c.loop-i-test.true c.part-item.is w.if-place-number.true c.in_ok-push-in-App.ensures.ok c.loop-i.invariant
          (moved c.loop-i.numbers c.if-place-number.numbers w.written_with.new.numbers (changed s (tree_of c.part-item.result) c.in-Some.rest.now new) c.if-place-number.written w.in_ok-written-in-App.written w.numbers-is w.written-is
          w.in_ok-written-in-App.ensures)
      | else-place-number+in_ok-written-in-App-2 w ↦
          written_there s c.in-Some.rest.now new c.deref-part-items.result.now c.loop-i.i c.in-Some.number.now c.part-item.result c.args.numbers.now c.loop-i.numbers c.if-place-number.numbers c.loop-i.made c.push.new.self
          (tree_of c.if-place-number.written) c.loop-i-test.true c.part-item.is w.if-place-number.false c.in_ok-push-in-App.ensures.ok c.loop-i.invariant
          (moved c.loop-i.numbers c.if-place-number.numbers w.write-else-place-number.new.numbers (substitute s (tree_of c.part-item.result)) c.if-place-number.written w.in_ok-written-in-App-2.written w.numbers-is w.written-is
          (record { numbers = w.in_ok-written-in-App-2.ensures.numbers; term = w.in_ok-written-in-App-2.ensures.term }))
    ]

pub returns-in-Var : goal.returns-in-Var
returns-in-Var t c =
    let own = own_among c.args.many (by_bindings c.args.unifier.now) in
    let s = own c.args.parent in
    let new = substitute (own c.args.change.now.parent) (tree_of c.args.change.now.term.now) in
    written_as c.write-in-Var.result c.args.numbers.now c.write-in-Var.new.numbers (substitute s (tree_of c.args.term.now)) (changed s (tree_of c.args.term.now) c.args.path.now new)
    (ap (λ u. substitute s (tree_of u)) c.in-Var.is ∙ sym (ap₂ (λ u path. changed s (tree_of u) path new) c.in-Var.is c.in-Some.ensures.cases.0))
    (written_of c.write-in-Var.result c.args.numbers.now c.write-in-Var.new.numbers (substitute s (tree_of c.args.term.now)) c.write-in-Var.ensures.numbers c.write-in-Var.ensures.term)

pub returns-in-Elem : goal.returns-in-Elem
returns-in-Elem t c =
    let own = own_among c.args.many (by_bindings c.args.unifier.now) in
    let s = own c.args.parent in
    let new = substitute (own c.args.change.now.parent) (tree_of c.args.change.now.term.now) in
    subst (λ u. IsWritten c.args.numbers.now c.args.numbers.now u (elem c.in-Elem.k)) (sym (ap₂ (λ u path. changed s (tree_of u) path new) c.in-Elem.is c.in-Some.ensures.cases.0)) (element_written c.args.numbers.now c.in-Elem.k)

pub returns-after-loop-i : goal.returns-after-loop-i
returns-after-loop-i t c =
    let own = own_among c.args.many (by_bindings c.args.unifier.now) in
    let s = own c.args.parent in
    let new = substitute (own c.args.change.now.parent) (tree_of c.args.change.now.term.now) in
    subst (λ u. IsWritten c.args.numbers.now c.loop-i.numbers u (app c.in-App.head.0 (trees_of c.loop-i.made))) (sym (ap₂ (λ u path. changed s (tree_of u) path new) c.in-App.is c.in-Some.ensures.cases.0))
    (written_changed s c.in-App.head.0 c.args.numbers.now c.loop-i.numbers c.deref-part-items.result.now c.terms.inside.items.items c.in-App.terms c.loop-i.made c.loop-i.i c.in-Some.number.now c.in-Some.rest.now new
    c.loop-i.invariant c.loop-i-test.false c.deref-part-items.ensures.value c.terms.view_is)
