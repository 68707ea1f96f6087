-- An argument more, the one of the number or another one; all under their symbol; and a term without arguments.
use Rattle.std.proofs.Common.{◌∙◌, ap, ap₂, sym}
use Rattle.clause_limits.specs.Sizes.{measured}
use Rattle.fol_core.specs.Substitutions.{substitute}
use Rattle.fol_core.specs.TermView.{tree_of}
use Rattle.substitutions.specs.Bindings.{by_bindings}
use Rattle.inference.specs.Left.{changed}
use Rattle.inference.proofs.Changed.{measured_changed, measured_here, measured_there}
use Rattle.term_unifiers.specs.Renamed.{own_among}
use Rattle.inference.proofs.measuring.+measured_with.Goals.{then-place-number, else-place-number}
use Rattle.inference.proofs.measuring.+measured_with.Goals as goal

pub loop-i-preserved : goal.loop-i-preserved
loop-i-preserved t c =
    let own = own_among c.args.many (by_bindings c.args.unifier.now) in
    let s = own c.args.parent in
    let new = substitute (own c.args.change.now.parent) (tree_of c.args.change.now.term.now) in
    elim c.if-place-number.branch [
      | then-place-number w ↦
          measured_here s c.in-Some.rest.now new c.deref-part-items.result.now c.loop-i.i c.in-Some.number.now c.part-item.result c.loop-i.parts c.if-place-number.measure c.beside-parts.result
          c.loop-i-test.true c.part-item.is w.if-place-number.true c.loop-i.invariant (w.measure-is ∙ w.measured_with-measure.ensures) c.beside-parts.ensures
      | else-place-number w ↦
          measured_there s c.in-Some.rest.now new c.deref-part-items.result.now c.loop-i.i c.in-Some.number.now c.part-item.result c.loop-i.parts c.if-place-number.measure c.beside-parts.result
          c.loop-i-test.true c.part-item.is w.if-place-number.false c.loop-i.invariant (w.measure-is ∙ w.measure-measure.ensures) c.beside-parts.ensures
    ]

pub returns-in-Var : goal.returns-in-Var
returns-in-Var t c =
    let own = own_among c.args.many (by_bindings c.args.unifier.now) in
    let new = substitute (own c.args.change.now.parent) (tree_of c.args.change.now.term.now) in
    c.measure-in-Var.ensures ∙ ap (λ u. measured (substitute (own c.args.parent) (tree_of u))) c.in-Var.is
    ∙ sym (ap₂ (λ u path. measured (changed (own c.args.parent) (tree_of u) path new)) c.in-Var.is c.in-Some.ensures.cases.0)

pub returns-after-loop-i : goal.returns-after-loop-i
returns-after-loop-i t c =
    let own = own_among c.args.many (by_bindings c.args.unifier.now) in
    let s = own c.args.parent in
    let new = substitute (own c.args.change.now.parent) (tree_of c.args.change.now.term.now) in
    measured_changed s c.in-App.field-0.0 c.deref-part-items.result.now c.terms.inside.items.items c.in-App.terms c.loop-i.i c.in-Some.number.now c.in-Some.rest.now new c.loop-i.parts c.under_symbol.result
    c.loop-i.invariant c.under_symbol.ensures c.loop-i-test.false c.deref-part-items.ensures.value c.terms.view_is
    ∙ sym (ap₂ (λ u path. measured (changed s (tree_of u) path new)) c.in-App.is c.in-Some.ensures.cases.0)
