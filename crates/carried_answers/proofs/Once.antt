-- Answers each once, under substitutions that can be taken back.
use Rattle.std.proofs.Common.{◌≡◌, Bool, true, false, ◌&&◌, ◌||◌, ◌==◌, if◌then◌else◌, IsTrue, List, [], ◌∷◌, ◌++◌, refl, sym, ap, ap₂, ◌∙◌}
use Rattle.std.specs.List.{list_any}
use Rattle.std.proofs.lemmas.Bool.{and_from, and_parts, eq-eqb, eqb-true, false≢true}
use Rattle.answers.specs.AnswerTrees.{Answer, answer, substitute_answer, substitute_answers, same_answer, added, all_added, each_once}
use Rattle.answered_lines.proofs.AnswerInstances.{answers_both}
use Rattle.fol_core.specs.Substitutions.{Substitution}
use Rattle.unifiers.specs.Matching.{same_trees}
use Rattle.unifiers.proofs.MatchesFound.{trees_same, same_themselves}

pub same_is : (a b : Answer) → same_answer a b ≡ true → a ≡ b
same_is a b h =
    let p = and_parts (a.goal == b.goal) (same_trees a.terms b.terms) h in
    ap₂ answer (eqb-true a.goal b.goal p.0) (trees_same a.terms b.terms p.1)

pub same_self : (a b : Answer) → a ≡ b → same_answer a b ≡ true
same_self a b h = ap (same_answer a) (sym h) ∙ and_from (a.goal == a.goal) (same_trees a.terms a.terms) (eq-eqb a.goal a.goal refl) (same_themselves a.terms)

-- two tests are one where each is true where the other is
test_same : (x y : Bool) → (x ≡ true → y ≡ true) → (y ≡ true → x ≡ true) → x ≡ y
test_same true y h k = sym (h refl)
test_same false true h k = k refl
test_same false false h k = refl

-- of substitutions, the second takes back what the first makes of answers
module _ (s u : Substitution) where
  abbrev comes_back : Answer → Type 0
  comes_back a = substitute_answer u (substitute_answer s a) ≡ a

  same_put : (a b : Answer) → comes_back a → comes_back b → same_answer (substitute_answer s a) (substitute_answer s b) ≡ same_answer a b
  same_put a b back other = test_same (same_answer (substitute_answer s a) (substitute_answer s b)) (same_answer a b)
      (λ h. same_self a b (sym back ∙ ap (substitute_answer u) (same_is (substitute_answer s a) (substitute_answer s b) h) ∙ other))
      (λ h. same_self (substitute_answer s a) (substitute_answer s b) (ap (substitute_answer s) (same_is a b h)))

  abbrev come_back : List Answer → Type 0
  come_back us = substitute_answers u (substitute_answers s us) ≡ us

  first_back : (a : Answer) (us : List Answer) → come_back (a ∷ us) → comes_back a
  first_back a us h = cc

  rest_back : (a : Answer) (us : List Answer) → come_back (a ∷ us) → come_back us
  rest_back a us h = cc

  any_put : (b : Answer) (us : List Answer) → comes_back b → come_back us → list_any (same_answer (substitute_answer s b)) (substitute_answers s us) ≡ list_any (same_answer b) us
  any_put b [] back backs = refl
  any_put b (a ∷ us) back backs = ap₂ (λ x y. x || y) (same_put b a back (first_back a us backs)) (any_put b us back (rest_back a us backs))

  added_put : (us : List Answer) (b : Answer) → come_back us → comes_back b → added (substitute_answers s us) (substitute_answer s b) ≡ substitute_answers s (added us b)
  added_put us b backs back =
      ap (λ t. if t then substitute_answers s us else substitute_answers s us ++ substitute_answer s b ∷ []) (any_put b us back backs) ∙ by (list_any (same_answer b) us)
    where
      by : (t : Bool) → (if t then substitute_answers s us else substitute_answers s us ++ substitute_answer s b ∷ []) ≡ substitute_answers s (if t then us else us ++ b ∷ [])
      by true = refl
      by false = sym (answers_both s us (b ∷ []))

  added_back : (us : List Answer) (b : Answer) → come_back us → comes_back b → come_back (added us b)
  added_back us b backs back = by (list_any (same_answer b) us)
    where
      by : (t : Bool) → come_back (if t then us else us ++ b ∷ [])
      by true = backs
      by false = ap (substitute_answers u) (answers_both s us (b ∷ [])) ∙ answers_both u (substitute_answers s us) (substitute_answer s b ∷ []) ∙ ap₂ (λ x y. x ++ y ∷ []) backs back

  all_put : (us bs : List Answer) → come_back us → come_back bs → all_added (substitute_answers s us) (substitute_answers s bs) ≡ substitute_answers s (all_added us bs)
  all_put us [] backs back = refl
  all_put us (b ∷ bs) backs back =
      ap (λ vs. all_added vs (substitute_answers s bs)) (added_put us b backs (first_back b bs back)) ∙ all_put (added us b) bs (added_back us b backs (first_back b bs back)) (rest_back b bs back)

  -- each once, then put in, is put in, then each once
  pub once_put : (us : List Answer) → substitute_answers u (substitute_answers s us) ≡ us → each_once (substitute_answers s us) ≡ substitute_answers s (each_once us)
  once_put us back = all_put [] us refl back

pub once_back : (s u : Substitution) (us : List Answer) → substitute_answers u (substitute_answers s us) ≡ us → substitute_answers u (substitute_answers s (each_once us)) ≡ each_once us
once_back s u us back =
    ap (substitute_answers u) (sym (once_put s u us back)) ∙ sym (once_put u s (substitute_answers s us) (ap (substitute_answers s) back)) ∙ ap each_once back
