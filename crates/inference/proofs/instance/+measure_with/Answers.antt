-- An argument more, and all of them.
use Rattle.std.proofs.Common.{◌∙◌, ap, sym}
use Rattle.clause_limits.specs.Sizes.{measured}
use Rattle.fol_core.specs.Substitutions.{substitute}
use Rattle.fol_core.specs.TermView.{tree_of}
use Rattle.substitutions.specs.Bindings.{by_bindings}
use Rattle.term_unifiers.proofs.Measured.{measured_made, measured_next}
use Rattle.inference.proofs.instance.+measure_with.Goals as goal

pub loop-term-preserved : goal.loop-term-preserved
loop-term-preserved t c =
    measured_next (by_bindings c.args.values.now) c.deref-term-items.result.now c.loop-term.term-index c.term-item.result c.loop-term.measure c.measure_with.result c.beside-measure.result c.loop-term-test.true c.term-item.is
    c.loop-term.invariant c.measure_with.ensures c.beside-measure.ensures

pub returns-after-loop-term : goal.returns-after-loop-term
returns-after-loop-term t c =
    measured_made (by_bindings c.args.values.now) c.in-App.field-0.0 c.deref-term-items.result.now c.terms.inside.items.items c.in-App.terms c.loop-term.term-index c.loop-term.measure c.under_symbol.result c.loop-term.invariant
    c.under_symbol.ensures c.loop-term-test.false c.deref-term-items.ensures.value c.terms.view_is
    ∙ ap (λ t. measured (substitute (by_bindings c.args.values.now) (tree_of t))) (sym c.in-App.is)
