-- The binding of the variable.
use Rattle.std.proofs.Common.{◌≡◌, ◌∙◌, ap, sym, map, slice_index_or}
use Rattle.clause_limits.specs.Sizes.{measured}
use Rattle.inference.specs.Instance.{all_measured}
use Rattle.substitutions.specs.View.{binding_of}
use Rattle.inference.proofs.InstanceSteps.{value_here}
use Rattle.inference.proofs.instance.measure_value.Goals as goal

pub returns-then-x-binding : goal.returns-then-x-binding
returns-then-x-binding c =
    let es = c.deref-binding-items.result.now in
    let bindings : c.args.values.now ≡ map binding_of es = sym c.values.view_is ∙ ap (map binding_of) (sym c.deref-binding-items.ensures.value) in
    ap (λ ms. slice_index_or ms c.loop-i.i record { size = 0; depth = 0 }) (c.requires ∙ ap all_measured bindings)
    ∙ value_here es c.loop-i.i c.args.x record { size = 0; depth = 0 } c.binding-item.result c.loop-i-test.true (c.if-x-binding.true ∙ ap (λ e. e.0) c.binding-item.is)
    ∙ ap measured c.loop-i.invariant
