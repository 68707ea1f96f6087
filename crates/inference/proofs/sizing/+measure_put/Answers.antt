-- An argument more, the one of the number or another one; and all under their symbol.
use Rattle.std.proofs.Common.{◌∙◌, ap₂, sym}
use Rattle.clause_limits.specs.Sizes.{measured}
use Rattle.fol_core.specs.Substitutions.{substitute}
use Rattle.fol_core.specs.TermView.{tree_of}
use Rattle.substitutions.specs.Bindings.{by_bindings}
use Rattle.substitutions.specs.Paths.{replaced}
use Rattle.inference.proofs.SizeSteps.{put_all, put_here, put_there}
use Rattle.inference.proofs.sizing.+measure_put.Goals.{then-place-number, else-place-number}
use Rattle.inference.proofs.sizing.+measure_put.Goals as goal

pub loop-i-preserved : goal.loop-i-preserved
loop-i-preserved t c =
    let new = substitute (by_bindings c.args.found.now.bindings) (tree_of c.args.right.now) in
    elim c.if-place-number.branch [
      | then-place-number w ↦
          put_here c.in-Some.rest.now new c.deref-part-items.result.now c.loop-i.i c.in-Some.number.now c.part-item.result c.loop-i.parts c.if-place-number.measure c.beside-parts.result
          c.loop-i-test.true c.part-item.is w.if-place-number.true c.loop-i.invariant (w.measure-is ∙ w.measure_put-measure.ensures) c.beside-parts.ensures
      | else-place-number w ↦
          put_there c.in-Some.rest.now new c.deref-part-items.result.now c.loop-i.i c.in-Some.number.now c.part-item.result c.loop-i.parts c.if-place-number.measure c.beside-parts.result
          c.loop-i-test.true c.part-item.is w.if-place-number.false c.loop-i.invariant (w.measure-is ∙ w.of-measure.ensures) c.beside-parts.ensures
    ]

pub returns-after-loop-i : goal.returns-after-loop-i
returns-after-loop-i t c =
    let new = substitute (by_bindings c.args.found.now.bindings) (tree_of c.args.right.now) in
    put_all c.in-App.field-0.0 c.deref-part-items.result.now c.terms.inside.items.items c.in-App.terms c.loop-i.i c.in-Some.number.now c.in-Some.rest.now new c.loop-i.parts c.under_symbol.result
    c.loop-i.invariant c.under_symbol.ensures c.loop-i-test.false c.deref-part-items.ensures.value c.terms.view_is
    ∙ sym (ap₂ (λ u path. measured (replaced (tree_of u) path new)) c.in-App.is c.in-Some.ensures.cases.0)
