-- An argument more, and all under their symbol.
use Rattle.std.proofs.Common.{◌∙◌, ap, sym}
use Rattle.clause_limits.specs.Sizes.{measured}
use Rattle.clause_limits.proofs.Measuring.{measured_more, measured_whole}
use Rattle.fol_core.specs.Substitutions.{substitute, substitute_all}
use Rattle.fol_core.specs.TermView.{tree_of, tree_list}
use Rattle.fol_core.specs.Tree.{trees_of}
use Rattle.fol_core.proofs.Putting.{put_each}
use Rattle.substitutions.specs.Bindings.{by_bindings}
use Rattle.term_matches.proofs.matches.Matches.+measure.Goals as goal

pub loop-term-preserved : goal.loop-term-preserved
loop-term-preserved t c =
    measured_more (λ t. substitute (by_bindings c.args.self.now.bindings) (tree_of t)) c.deref-term-items.result.now c.loop-term.term-index c.term-item.result c.loop-term.measure c.measure.result c.beside-measure.result
    c.loop-term-test.true c.term-item.is c.loop-term.invariant c.measure.ensures c.beside-measure.ensures

pub returns-after-loop-term : goal.returns-after-loop-term
returns-after-loop-term t c =
    let s = by_bindings c.args.self.now.bindings in
    measured_whole (λ t. substitute s (tree_of t)) c.in-App.field-0.0 c.deref-term-items.result.now (substitute_all s (trees_of c.in-App.terms)) c.loop-term.term-index c.loop-term.measure c.under_symbol.result
    c.loop-term.invariant c.under_symbol.ensures c.loop-term-test.false
    (put_each s c.deref-term-items.result.now ∙ ap (λ ts. substitute_all s (trees_of (tree_list ts))) c.deref-term-items.ensures.value ∙ ap (λ ts. substitute_all s (trees_of ts)) c.terms.view_is)
    ∙ ap (λ t. measured (substitute s (tree_of t))) (sym c.in-App.is)
