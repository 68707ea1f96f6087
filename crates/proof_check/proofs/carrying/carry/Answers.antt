use Rattle.std.proofs.Common.{◌≡◌, ◌↔◌, IsTrue, Bool, true, false, length, map, MatchOption, Some, None, IfOk, sym, ap, ◌∙◌, subst}
use Rattle.std.proofs.lemmas.Bool.{false≢true}
use Rattle.answered_lines.specs.Lines.{answers_at, AfterWith}
use Rattle.answered_lines.specs.View.{answered_lines_of}
use Rattle.answers.specs.AnswerView.{answers_of}
use Rattle.carried_answers.specs.Carried.{LedBy, FirstAs, lent_answers}
use Rattle.derivation.specs.Later.{later_parents}
use Rattle.derivation.specs.Lines.{AreClauses}
use Rattle.derivation.specs.Refused.{are_there}
use Rattle.derivation.specs.View.{first_word_of, later_of, content_of, lines_of}
use Rattle.inference.specs.Judged.{inference_by, parents_by}
use Rattle.inference.specs.Lent.{lent_clauses}
use Rattle.proof_check.proofs.CarryingSteps.{same_lengths, carrying_stops}
use Rattle.proof_check.proofs.carrying.carry.Goals as goal

pub follow_with-requires : goal.follow_with-requires
follow_with-requires c =
    let ks = lines_of c.args.earlier.now in
    let all = answered_lines_of c.args.earlier.now in
    let parents = c.in-Some.parents.items in
    let ns = c.in_ok-numbers.numbers.items in
    let found : MatchOption c.in_ok-parents.field-0 (are_there ks c.as_slice.result.now ≡ false) (λ cs. AreClauses ks c.as_slice.result.now (lent_clauses cs.items)) = c.in_ok-parents.ensures in
    let are : AreClauses ks ns (lent_clauses parents) =
    subst (λ ms. AreClauses ks ms (lent_clauses parents)) c.as_slice.ensures.value
    (subst (λ o. MatchOption o (are_there ks c.as_slice.result.now ≡ false) (λ cs. AreClauses ks c.as_slice.result.now (lent_clauses cs.items))) c.in-Some.is found) in
    let told : lent_answers c.in_ok-answers.answers.items ≡ answers_at all c.as_slice-in-loop-word.result.now = c.in_ok-answers.ensures in
    ap length c.as_slice-in-loop-word-3.ensures.value
    ∙ same_lengths ks all ns parents c.in_ok-answers.answers.items are (told ∙ ap (answers_at all) c.as_slice-in-loop-word.ensures.value)
    ∙ sym (ap length c.as_slice-in-loop-word-2.ensures.value)

pub returns-then-not-branch : goal.returns-then-not-branch
returns-then-not-branch c =
    let ks = lines_of c.args.earlier.now in
    let all = answered_lines_of c.args.earlier.now in
    let line = c.args.line.now in
    let w = c.word-item.result in
    let b = c.loop-word.carried in
    let next = c.follow_with.new.self in
    let parents = c.in-Some.parents.items in
    let numbers : c.in_ok-numbers.numbers.items ≡ later_parents (later_of w) = c.in_ok-numbers.ensures in
    let found : MatchOption c.in_ok-parents.field-0 (are_there ks c.as_slice.result.now ≡ false) (λ cs. AreClauses ks c.as_slice.result.now (lent_clauses cs.items)) = c.in_ok-parents.ensures in
    let are : AreClauses ks (later_parents (later_of w)) (lent_clauses parents) =
    subst (λ ms. AreClauses ks ms (lent_clauses parents)) (c.as_slice.ensures.value ∙ numbers)
    (subst (λ o. MatchOption o (are_there ks c.as_slice.result.now ≡ false) (λ cs. AreClauses ks c.as_slice.result.now (lent_clauses cs.items))) c.in-Some.is found) in
    let told : lent_answers c.in_ok-answers.answers.items ≡ answers_at all c.as_slice-in-loop-word.result.now = c.in_ok-answers.ensures in
    let done : LedBy (later_of w) b (lent_clauses c.as_slice-in-loop-word-2.result.now) (lent_answers c.as_slice-in-loop-word-3.result.now) next c.in_ok-follow_with.field-0 = c.in_ok-follow_with.ensures in
    let led : LedBy (later_of w) b (lent_clauses parents) (answers_at all (later_parents (later_of w))) next false =
    subst (λ us. LedBy (later_of w) b (lent_clauses parents) us next false) (told ∙ ap (answers_at all) (c.as_slice-in-loop-word.ensures.value ∙ numbers))
    (subst (λ us. LedBy (later_of w) b (lent_clauses parents) (lent_answers us) next false) c.as_slice-in-loop-word-3.ensures.value
    (subst (λ ps. LedBy (later_of w) b (lent_clauses ps) (lent_answers c.as_slice-in-loop-word-3.result.now) next false) c.as_slice-in-loop-word-2.ensures.value
    (subst (λ (t : Bool). LedBy (later_of w) b (lent_clauses c.as_slice-in-loop-word-2.result.now) (lent_answers c.as_slice-in-loop-word-3.result.now) next t) c.if-not-branch.true done))) in (
      λ e. absurd (false≢true e),
      λ after. absurd (carrying_stops c.args.earlier.now (content_of line.content) (answers_of line.notes.answers.items) c.args.words.now c.args.carried c.loop-word.word-index b w
          c.answers_are_led.ensures.stops c.loop-word.invariant c.loop-word-test.true c.word-item.is (lent_clauses parents) next are led after),
    )
