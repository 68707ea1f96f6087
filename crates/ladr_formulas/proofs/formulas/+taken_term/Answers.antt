use Rattle.std.proofs.Common.{◌∙◌, List, ℕ, ap, arith}
use Rattle.fol_core.specs.RawView.{raw_of}
use Rattle.fol_core.specs.RawTree.{raws_of}
use Rattle.fol_core.specs.declared.symbols.Kind.TheVariants.{Function}
use Rattle.fol_core.specs.declared.raw.Raw.{Raw}
use Rattle.ladr_lex.specs.declared.misuse.Misuse.TheVariants.{UnfitNumeral}
use Rattle.ladr_formulas.specs.Formulas.{arity_of, is_too_great, meets, with_symbol, symbol_number, term_of}
use Rattle.ladr_formulas.proofs.TermLemmas.{terms_next, terms_over, rest_smaller, term_applied, kept_both}
use Rattle.ladr_formulas.proofs.formulas.+taken_term.Goals as goal

pub loop-arg-preserved : goal.loop-arg-preserved
loop-arg-preserved t c = record {
  read = terms_next c.args.style c.args.reader.now.scope _ _ _ c.loop-arg.terms _ _ (raw_of c.in-Some.arg) c.loop-arg.waiting c.next.new.self c.in-Some.ensures c.loop-arg.invariant.scope c.in_ok-taken_term-in-App.ensures.read c.in_ok-push-in-App.ensures.ok ∙ c.loop-arg.invariant.read;
  scope = c.in_ok-taken_term-in-App.ensures.scope ∙ c.loop-arg.invariant.scope;
  kept = kept_both _ _ _ c.loop-arg.invariant.kept c.in_ok-taken_term-in-App.ensures.kept;
  smaller = rest_smaller (raw_of c.in-Some.arg) c.loop-arg.waiting c.next.new.self c.of-waiting.result c.in-Some.ensures c.loop-arg.invariant.smaller;
}

pub returns-in_default-clause-read : goal.returns-in_default-clause-read
returns-in_default-clause-read t c =
    let st = c.args.style in
    let scope = c.args.reader.now.scope in
    let before = c.args.reader.now.reading in
    let arity = arity_of (raws_of c.in-App.args) in
    ap (λ (r : Raw). term_of st scope before (raw_of r)) c.in-App.is ∙
    term_applied st scope before c.function.new.reader.reading c.loop-arg.reader.reading c.in-App.name c.in-App.args c.in_ok-s-in-App.s.0 c.loop-arg.terms (omega (arith, c.len.ensures, c.if-len-eq0.false))
    (c.in_ok-s-in-App.ensures.read ∙ ap (λ (name : List ℕ). with_symbol name arity Function (meets (is_too_great st name) UnfitNumeral before)) c.bytes-in-App.ensures)
    (c.in_ok-s-in-App.ensures.number ∙ ap (λ (name : List ℕ). symbol_number name arity c.function.new.reader.reading) c.bytes-in-App.ensures)
    (terms_over st scope c.loop-arg.reader.reading c.function.new.reader.reading c.loop-arg.terms c.loop-arg.waiting c.of-waiting.result c.in-App.args c.in_default.ensures c.of-waiting.ensures c.loop-arg.invariant.read)
