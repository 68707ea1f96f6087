use Rattle.std.specs.Borrow.{Bor}
use Rattle.std.specs.Option.{option_map}
use Rattle.std.proofs.Common.{◌≡◌, List, ◌++◌, map, sym, ap, ◌∙◌, subst}
use Rattle.fol_core.specs.Literals.{ClauseTree}
use Rattle.derivation.specs.Lines.{inference_of, clash_inference}
use Rattle.derivation.specs.Words.{clash_rule}
use Rattle.derivation.specs.declared.words.Satellite.{Satellite}
use Rattle.inference.specs.Judged.{clash_of, JudgedAs}
use Rattle.inference.specs.Lent.{lent_clauses}
use Rattle.proof_words.specs.Written.{WrittenFirst, meant, written_first}
use Rattle.prover_steps.specs.Concluded.{Conclusion, inferred}
use Rattle.resolution.specs.Trying.{clashing_word}
use Rattle.resolution.specs.View.{clause_of, all_conclusions}
use Rattle.resolution.proofs.Clashes.{clash_word, finish_some}
use Rattle.resolution.proofs.Judgements.{inferred_none, inferred_one}
use Rattle.resolution.proofs.clashing.finish.Goals as goal

pub returns-in_default : goal.returns-in_default
returns-in_default c =
    let n = c.args.nucleus in
    let ss = c.args.taken.now.satellites.items in
    let bs = c.args.taken.now.clauses.items in
    let j = c.in_ok-judged.judged in
    let old = all_conclusions c.args.made.now.items in
    let judged : JudgedAs (clash_rule (map clash_of ss)) (lent_clauses bs) j =
    subst (λ (xs : List Satellite). JudgedAs (clash_rule (map clash_of xs)) (lent_clauses bs) j) c.as_slice-satellites.ensures.value
    (subst (λ (ds : List (Bor ClauseTree)). JudgedAs (clash_rule (map clash_of c.as_slice-satellites.result.now)) (lent_clauses ds) j) c.as_slice.ensures.value c.in_ok-judged.ensures) in
    inferred_none (clashing_word n.kind n.number ss) (clash_inference n.number ss) (lent_clauses bs) (clash_word n.kind n.number n.given ss) j old judged
    (sym (ap (option_map clause_of) c.in_default.is) ∙ c.in_ok-clause.ensures)
    ∙ ap (λ (ns : List Conclusion). old ++ ns) (sym (finish_some n.kind n.number n.given c.args.used ss (lent_clauses bs) c.if-not-used.false))

pub returns : goal.returns
returns c =
    let n = c.args.nucleus in
    let ss = c.args.taken.now.satellites.items in
    let bs = c.args.taken.now.clauses.items in
    let j = c.in_ok-judged.judged in
    let old = all_conclusions c.args.made.now.items in
    let judged : JudgedAs (clash_rule (map clash_of ss)) (lent_clauses bs) j =
    subst (λ (xs : List Satellite). JudgedAs (clash_rule (map clash_of xs)) (lent_clauses bs) j) c.as_slice-satellites.ensures.value
    (subst (λ (ds : List (Bor ClauseTree)). JudgedAs (clash_rule (map clash_of c.as_slice-satellites.result.now)) (lent_clauses ds) j) c.as_slice.ensures.value c.in_ok-judged.ensures) in
    let word : written_first c.in_ok-first.first ≡ clashing_word n.kind n.number ss = c.in_ok-first.ensures ∙ ap (clashing_word n.kind n.number) c.as_slice-satellites.ensures.value in
    inferred_one c.in_ok-first.first (clash_inference n.number ss) (lent_clauses bs) (ap (λ (w : WrittenFirst). inference_of (meant w)) word ∙ clash_word n.kind n.number n.given ss) j c.in-Some.clause
    c.args.made.now.items c.push.new.self.items judged (sym (ap (option_map clause_of) c.in-Some.is) ∙ c.in_ok-clause.ensures) c.in_ok-push.ensures.items
    ∙ ap (λ (w : WrittenFirst). old ++ inferred w (lent_clauses bs)) word ∙ ap (λ (ns : List Conclusion). old ++ ns) (sym (finish_some n.kind n.number n.given c.args.used ss (lent_clauses bs) c.if-not-used.false))
