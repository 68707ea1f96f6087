use Rattle.std.proofs.Common.{◌≡◌, ◌∙◌, MatchOption, false, sym, ap, subst, map}
use Rattle.std.specs.List.{flat_map}
use Rattle.derivation.specs.Later.{later_parents}
use Rattle.derivation.specs.Lines.{AreClauses}
use Rattle.derivation.specs.Refused.{are_there}
use Rattle.derivation.specs.View.{first_word_of, later_of, content_of, lines_of}
use Rattle.inference.specs.Judged.{parents_by}
use Rattle.inference.specs.Lent.{lent_clauses}
use Rattle.proof_check.proofs.InferSteps.{all_there}
use Rattle.proof_check.proofs.inferring.infer.Goals as goal

pub rule_and_words-requires-clause-there : goal.rule_and_words-requires-clause-there
rule_and_words-requires-clause-there c =
    let ls = lines_of c.args.earlier.now in
    let w = first_word_of c.args.just.now.first in
    let numbers : c.as_slice.result.now ≡ parents_by w = c.as_slice.ensures.value ∙ c.in_ok-numbers.ensures in
    all_there ls w (map later_of c.args.just.now.steps.items) (content_of c.args.content.now) (lent_clauses c.in-Some.parents.items)
    (subst (λ ns. AreClauses ls ns (lent_clauses c.in-Some.parents.items)) numbers
    (subst (λ o. MatchOption o (are_there ls c.as_slice.result.now ≡ false) (λ cs. AreClauses ls c.as_slice.result.now (lent_clauses cs.items))) c.in-Some.is c.in_ok-parents.ensures))
    (ap (λ ss. are_there ls (flat_map later_parents (map later_of ss))) (sym c.as_slice-2.ensures.value) ∙ sym c.in_ok-later_there.ensures ∙ c.if-not-branch.false)
