-- All arguments are measured.
use Rattle.std.proofs.Common.{◌∙◌, ap, sym}
use Rattle.clause_limits.specs.Sizes.{measured}
use Rattle.fol_core.specs.Substitutions.{substitute}
use Rattle.fol_core.specs.TermView.{tree_of}
use Rattle.substitutions.specs.Bindings.{by_bindings}
use Rattle.term_unifiers.specs.Renamed.{own_among}
use Rattle.term_unifiers.specs.Solutions.{bindings_of}
use Rattle.term_unifiers.proofs.Measured.{measured_made, measured_next}
use Rattle.term_unifiers.proofs.sizes.+measure_among.Goals as goal

pub loop-term-preserved : goal.loop-term-preserved
loop-term-preserved t c =
    measured_next (own_among c.args.many (by_bindings (bindings_of c.args.found.now)) c.args.parent) c.deref-term-items.result.now c.loop-term.term-index c.term-item.result c.loop-term.measure c.measure_among.result c.beside-measure.result c.loop-term-test.true c.term-item.is
    c.loop-term.invariant c.measure_among.ensures c.beside-measure.ensures

pub returns-in-Var : goal.returns-in-Var
returns-in-Var t c =
    let s = own_among c.args.many (by_bindings (bindings_of c.args.found.now)) c.args.parent in
    c.measure_variable.ensures ∙ ap (λ n. measured (by_bindings (bindings_of c.args.found.now) n)) c.number_apart.ensures ∙ ap (λ t. measured (substitute s (tree_of t))) (sym c.in-Var.is)

pub returns-in-Elem : goal.returns-in-Elem
returns-in-Elem t c =
    let s = own_among c.args.many (by_bindings (bindings_of c.args.found.now)) c.args.parent in
    c.one.ensures ∙ ap (λ t. measured (substitute s (tree_of t))) (sym c.in-Elem.is)

pub returns-after-loop-term : goal.returns-after-loop-term
returns-after-loop-term t c =
    let s = own_among c.args.many (by_bindings (bindings_of c.args.found.now)) c.args.parent in
    measured_made s c.in-App.field-0.0 c.deref-term-items.result.now c.terms.inside.items.items c.in-App.terms c.loop-term.term-index c.loop-term.measure c.under_symbol.result c.loop-term.invariant c.under_symbol.ensures c.loop-term-test.false c.deref-term-items.ensures.value c.terms.view_is
    ∙ ap (λ t. measured (substitute s (tree_of t))) (sym c.in-App.is)
