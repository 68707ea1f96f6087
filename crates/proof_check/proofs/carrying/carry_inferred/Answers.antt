use Rattle.std.proofs.Common.{◌≡◌, ◌↔◌, IsTrue, Bool, true, false, length, map, MatchOption, Some, None, IfOk, sym, ap, ◌∙◌, subst}
use Rattle.std.proofs.lemmas.Bool.{false≢true}
use Rattle.answered_lines.specs.Lines.{answers_at, AfterWith}
use Rattle.answered_lines.specs.View.{answered_lines_of}
use Rattle.answers.specs.AnswerView.{answers_of}
use Rattle.carried_answers.specs.Carried.{LedBy, FirstAs, lent_answers}
use Rattle.derivation.specs.Later.{later_parents}
use Rattle.derivation.specs.Lines.{AreClauses}
use Rattle.derivation.specs.Refused.{are_there}
use Rattle.derivation.specs.View.{first_word_of, later_of, content_of, lines_of}
use Rattle.inference.specs.Judged.{inference_by, parents_by}
use Rattle.inference.specs.Lent.{lent_clauses}
use Rattle.proof_check.proofs.CarryingSteps.{same_lengths, parents_gone, rule_stops, rule_told}
use Rattle.proof_check.proofs.carrying.carry_inferred.Goals as goal

pub returns-in_default : goal.returns-in_default
returns-in_default c =
    let ls = c.args.earlier.now in
    let ks = lines_of ls in
    let all = answered_lines_of ls in
    let line = c.args.line.now in
    let w = first_word_of line.just.first in
    let numbers : c.in_ok-numbers.numbers.items ≡ parents_by w = c.in_ok-numbers.ensures in
    let found : MatchOption c.in_ok-parents.field-0 (are_there ks c.as_slice.result.now ≡ false) (λ cs. AreClauses ks c.as_slice.result.now (lent_clauses cs.items)) = c.in_ok-parents.ensures in
    let missing : are_there ks (parents_by w) ≡ false =
    ap (are_there ks) (sym (c.as_slice.ensures.value ∙ numbers))
    ∙ subst (λ o. MatchOption o (are_there ks c.as_slice.result.now ≡ false) (λ cs. AreClauses ks c.as_slice.result.now (lent_clauses cs.items))) c.in_default.is found in
    (λ e. absurd (false≢true e), λ h. absurd (parents_gone ls (content_of line.content) (answers_of line.notes.answers.items) w (map later_of line.just.steps.items) missing h))

pub first-requires : goal.first-requires
first-requires c =
    let ls = c.args.earlier.now in
    let ks = lines_of ls in
    let all = answered_lines_of ls in
    let line = c.args.line.now in
    let w = first_word_of line.just.first in
    let numbers : c.in_ok-numbers.numbers.items ≡ parents_by w = c.in_ok-numbers.ensures in
    let found : MatchOption c.in_ok-parents.field-0 (are_there ks c.as_slice.result.now ≡ false) (λ cs. AreClauses ks c.as_slice.result.now (lent_clauses cs.items)) = c.in_ok-parents.ensures in
    let parents = c.in-Some.parents.items in
    let are : AreClauses ks (parents_by w) (lent_clauses parents) =
    subst (λ ms. AreClauses ks ms (lent_clauses parents)) (c.as_slice.ensures.value ∙ numbers)
    (subst (λ o. MatchOption o (are_there ks c.as_slice.result.now ≡ false) (λ cs. AreClauses ks c.as_slice.result.now (lent_clauses cs.items))) c.in-Some.is found) in
    let told : lent_answers c.in_ok-answers.answers.items ≡ answers_at all (parents_by w) = c.in_ok-answers.ensures ∙ ap (answers_at all) (c.as_slice-2.ensures.value ∙ numbers) in
    ap length c.as_slice-4.ensures.value ∙ same_lengths ks all (parents_by w) parents c.in_ok-answers.answers.items are told ∙ sym (ap length c.as_slice-3.ensures.value)

pub returns-in-None : goal.returns-in-None
returns-in-None c =
    let ls = c.args.earlier.now in
    let ks = lines_of ls in
    let all = answered_lines_of ls in
    let line = c.args.line.now in
    let w = first_word_of line.just.first in
    let numbers : c.in_ok-numbers.numbers.items ≡ parents_by w = c.in_ok-numbers.ensures in
    let found : MatchOption c.in_ok-parents.field-0 (are_there ks c.as_slice.result.now ≡ false) (λ cs. AreClauses ks c.as_slice.result.now (lent_clauses cs.items)) = c.in_ok-parents.ensures in
    let parents = c.in-Some.parents.items in
    let are : AreClauses ks (parents_by w) (lent_clauses parents) =
    subst (λ ms. AreClauses ks ms (lent_clauses parents)) (c.as_slice.ensures.value ∙ numbers)
    (subst (λ o. MatchOption o (are_there ks c.as_slice.result.now ≡ false) (λ cs. AreClauses ks c.as_slice.result.now (lent_clauses cs.items))) c.in-Some.is found) in
    let told : lent_answers c.in_ok-answers.answers.items ≡ answers_at all (parents_by w) = c.in_ok-answers.ensures ∙ ap (answers_at all) (c.as_slice-2.ensures.value ∙ numbers) in
    let done : FirstAs (inference_by w).rule (lent_clauses c.as_slice-3.result.now) (lent_answers c.as_slice-4.result.now) c.in_ok-first.field-0 = c.in_ok-first.ensures in
    let made =
    subst (λ us. FirstAs (inference_by w).rule (lent_clauses parents) us None) told
    (subst (λ us. FirstAs (inference_by w).rule (lent_clauses parents) (lent_answers us) None) c.as_slice-4.ensures.value
    (subst (λ ps. FirstAs (inference_by w).rule (lent_clauses ps) (lent_answers c.as_slice-4.result.now) None) c.as_slice-3.ensures.value
    (subst (λ o. FirstAs (inference_by w).rule (lent_clauses c.as_slice-3.result.now) (lent_answers c.as_slice-4.result.now) o) c.in-None.is done))) in
    (λ e. absurd (false≢true e), λ h. absurd (rule_stops ls (content_of line.content) (answers_of line.notes.answers.items) w (map later_of line.just.steps.items) c.answers_are_led.ensures.none (lent_clauses parents) are made h))

pub returns : goal.returns
returns c =
    let ls = c.args.earlier.now in
    let ks = lines_of ls in
    let all = answered_lines_of ls in
    let line = c.args.line.now in
    let w = first_word_of line.just.first in
    let numbers : c.in_ok-numbers.numbers.items ≡ parents_by w = c.in_ok-numbers.ensures in
    let found : MatchOption c.in_ok-parents.field-0 (are_there ks c.as_slice.result.now ≡ false) (λ cs. AreClauses ks c.as_slice.result.now (lent_clauses cs.items)) = c.in_ok-parents.ensures in
    let parents = c.in-Some.parents.items in
    let are : AreClauses ks (parents_by w) (lent_clauses parents) =
    subst (λ ms. AreClauses ks ms (lent_clauses parents)) (c.as_slice.ensures.value ∙ numbers)
    (subst (λ o. MatchOption o (are_there ks c.as_slice.result.now ≡ false) (λ cs. AreClauses ks c.as_slice.result.now (lent_clauses cs.items))) c.in-Some.is found) in
    let told : lent_answers c.in_ok-answers.answers.items ≡ answers_at all (parents_by w) = c.in_ok-answers.ensures ∙ ap (answers_at all) (c.as_slice-2.ensures.value ∙ numbers) in
    let a = c.in-Some-2.carried in
    let content = content_of line.content in
    let us = answers_of line.notes.answers.items in
    let done : FirstAs (inference_by w).rule (lent_clauses c.as_slice-3.result.now) (lent_answers c.as_slice-4.result.now) c.in_ok-first.field-0 = c.in_ok-first.ensures in
    let made =
    subst (λ us. FirstAs (inference_by w).rule (lent_clauses parents) us (Some a)) told
    (subst (λ us. FirstAs (inference_by w).rule (lent_clauses parents) (lent_answers us) (Some a)) c.as_slice-4.ensures.value
    (subst (λ ps. FirstAs (inference_by w).rule (lent_clauses ps) (lent_answers c.as_slice-4.result.now) (Some a)) c.as_slice-3.ensures.value
    (subst (λ o. FirstAs (inference_by w).rule (lent_clauses c.as_slice-3.result.now) (lent_answers c.as_slice-4.result.now) o) c.in-Some-2.is done))) in
    let after : IfOk c.carry.result (λ t. IsTrue t ↔ AfterWith all (map later_of c.as_slice-in-Some-2.result.now) a.clause a.answers content us) = c.carry.ensures in
    rule_told ls content us w (map later_of line.just.steps.items) c.answers_are_led.ensures.first c.requires.rule (lent_clauses parents) a c.carry.result are made
    (subst (λ vs. IfOk c.carry.result (λ t. IsTrue t ↔ AfterWith all (map later_of vs) a.clause a.answers content us)) c.as_slice-in-Some-2.ensures.value after)
