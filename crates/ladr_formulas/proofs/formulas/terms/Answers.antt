use Rattle.std.proofs.Common.{◌∙◌, sym, ap}
use Rattle.fol_core.specs.RawView.{raw_list}
use Rattle.ladr_formulas.proofs.TermLemmas.{onto_none, terms_more, terms_end, kept_both}
use Rattle.ladr_formulas.proofs.formulas.terms.Goals as goal

pub loop-arg-preserved : goal.loop-arg-preserved
loop-arg-preserved c = (
  terms_more c.args.style c.args.reader.now.scope _ _ _ c.loop-arg.terms _ _ c.arg-item.result c.deref-arg-items.result.now c.loop-arg.arg-index c.loop-arg-test.true c.arg-item.is c.loop-arg.invariant.1 c.in_ok-term.ensures.read c.in_ok-push.ensures.ok ∙ c.loop-arg.invariant.0,
  c.in_ok-term.ensures.scope ∙ c.loop-arg.invariant.1,
  kept_both _ _ _ c.loop-arg.invariant.2 c.in_ok-term.ensures.kept,
)

pub returns-clause-read : goal.returns-clause-read
returns-clause-read c =
    sym (terms_end c.args.style c.args.reader.now.scope _ _ c.loop-arg.terms c.deref-arg-items.result.now c.args.raws.now c.loop-arg.arg-index c.loop-arg-test.false (ap raw_list c.deref-arg-items.ensures.value ∙ c.raws.view_is) c.loop-arg.invariant.0) ∙
    (λ i. record { tree = onto_none c.loop-arg.terms i; reading = c.loop-arg.reader.reading })
