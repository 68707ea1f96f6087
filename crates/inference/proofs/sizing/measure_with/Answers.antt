-- A literal more, the one at the place or another one; and all of them.
use Rattle.std.proofs.Common.{◌∙◌}
use Rattle.fol_core.specs.Substitutions.{substitute}
use Rattle.fol_core.specs.TermView.{tree_of}
use Rattle.substitutions.specs.Bindings.{by_bindings}
use Rattle.std.proofs.Common.{ap, map}
use Rattle.fol_core.specs.ClauseView.{literal_of}
use Rattle.inference.proofs.SizeSteps.{with_all, with_here, with_there}
use Rattle.inference.proofs.sizing.measure_with.Goals.{then-i-place, else-i-place}
use Rattle.inference.proofs.sizing.measure_with.Goals as goal

pub loop-i-preserved : goal.loop-i-preserved
loop-i-preserved c =
    let new = substitute (by_bindings c.args.found.now.bindings) (tree_of c.args.right.now) in
    elim c.if-i-place.branch [
      | then-i-place w ↦
          with_here c.deref-literal-items.result.now c.args.place c.args.path.now new c.loop-i.i c.literal-item.result c.loop-i.all c.if-i-place.measure c.beside-all.result
          c.loop-i-test.true c.literal-item.is w.if-i-place.true c.loop-i.invariant (w.measure-is ∙ w.measure_put-measure.ensures) c.beside-all.ensures
      | else-i-place w ↦
          with_there c.deref-literal-items.result.now c.args.place c.args.path.now new c.loop-i.i c.literal-item.result c.loop-i.all c.if-i-place.measure c.beside-all.result
          c.loop-i-test.true c.literal-item.is w.if-i-place.false c.loop-i.invariant (w.measure-is ∙ w.of-measure.ensures) c.beside-all.ensures
    ]

pub returns : goal.returns
returns c =
    let new = substitute (by_bindings c.args.found.now.bindings) (tree_of c.args.right.now) in
    with_all c.deref-literal-items.result.now c.args.clause.now c.args.place c.args.path.now new c.loop-i.i c.loop-i.all c.loop-i-test.false (ap (map literal_of) c.deref-literal-items.ensures.value ∙ c.clause.view_is) c.loop-i.invariant
