use Rattle.std.proofs.Common.{◌∙◌, List, ℕ, ap, arith}
use Rattle.fol_core.specs.RawView.{raw_of, raw_list}
use Rattle.fol_core.specs.RawTree.{raws_of}
use Rattle.fol_core.specs.declared.symbols.Kind.TheVariants.{Function}
use Rattle.fol_core.specs.declared.raw.Raw.{Raw}
use Rattle.ladr_lex.specs.declared.misuse.Misuse.TheVariants.{UnfitNumeral}
use Rattle.ladr_formulas.specs.Formulas.{arity_of, is_too_great, meets, with_symbol, symbol_number, term_of}
use Rattle.ladr_formulas.proofs.TermLemmas.{terms_more, terms_end, term_applied, kept_both}
use Rattle.ladr_formulas.proofs.formulas.+term.Goals as goal

pub loop-arg-preserved : goal.loop-arg-preserved
loop-arg-preserved t c = (
  terms_more c.args.style c.args.reader.now.scope _ _ _ c.loop-arg.terms _ _ c.arg-item.result c.deref-arg-items.result.now c.loop-arg.arg-index c.loop-arg-test.true c.arg-item.is c.loop-arg.invariant.1 c.in_ok-term-in-App.ensures.read c.in_ok-push-in-App.ensures.ok ∙ c.loop-arg.invariant.0,
  c.in_ok-term-in-App.ensures.scope ∙ c.loop-arg.invariant.1,
  kept_both _ _ _ c.loop-arg.invariant.2 c.in_ok-term-in-App.ensures.kept,
)

pub returns-after-loop-arg-clause-read : goal.returns-after-loop-arg-clause-read
returns-after-loop-arg-clause-read t c =
    let st = c.args.style in
    let scope = c.args.reader.now.scope in
    let before = c.args.reader.now.reading in
    let arity = arity_of (raws_of c.in-App.args) in
    ap (λ (r : Raw). term_of st scope before (raw_of r)) c.in-App.is ∙
    term_applied st scope before c.function.new.reader.reading c.loop-arg.reader.reading c.in-App.name c.in-App.args c.in_ok-s-in-App.s.0 c.loop-arg.terms (omega arith)
    (c.in_ok-s-in-App.ensures.read ∙ ap (λ (name : List ℕ). with_symbol name arity Function (meets (is_too_great st name) UnfitNumeral before)) c.bytes-in-App.ensures)
    (c.in_ok-s-in-App.ensures.number ∙ ap (λ (name : List ℕ). symbol_number name arity c.function.new.reader.reading) c.bytes-in-App.ensures)
    (terms_end st scope _ _ _ c.deref-arg-items.result.now c.in-App.args c.loop-arg.arg-index c.loop-arg-test.false (ap raw_list c.deref-arg-items.ensures.value ∙ c.args-in-App.view_is) c.loop-arg.invariant.0)
