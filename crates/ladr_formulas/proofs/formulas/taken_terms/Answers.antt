use Rattle.std.proofs.Common.{◌∙◌, sym}
use Rattle.fol_core.specs.RawView.{raw_of}
use Rattle.ladr_formulas.proofs.TermLemmas.{onto_none, terms_next, terms_over, kept_both}
use Rattle.ladr_formulas.proofs.formulas.taken_terms.Goals as goal

pub loop-arg-preserved : goal.loop-arg-preserved
loop-arg-preserved c = record {
  read = terms_next c.args.style c.args.reader.now.scope _ _ _ c.loop-arg.terms _ _ (raw_of c.in-Some.arg) c.loop-arg.waiting c.next.new.self c.in-Some.ensures c.loop-arg.invariant.scope c.in_ok-taken_term.ensures.read c.in_ok-push.ensures.ok ∙ c.loop-arg.invariant.read;
  scope = c.in_ok-taken_term.ensures.scope ∙ c.loop-arg.invariant.scope;
  kept = kept_both _ _ _ c.loop-arg.invariant.kept c.in_ok-taken_term.ensures.kept;
}

pub returns-clause-read : goal.returns-clause-read
returns-clause-read c =
    sym (terms_over c.args.style c.args.reader.now.scope c.loop-arg.reader.reading c.args.reader.now.reading c.loop-arg.terms c.loop-arg.waiting c.of-waiting.result c.args.args c.in_default.ensures c.of-waiting.ensures c.loop-arg.invariant.read) ∙
    (λ i. record { tree = onto_none c.loop-arg.terms i; reading = c.loop-arg.reader.reading })
