-- Clauses with answers that are good: under each assignment under which all answers fail some literal is true.
use Rattle.std.proofs.Common.{◌≡◌, inl, inr, ℕ, Bool, true, false, ◌==◌, if◌then◌else◌, IsTrue, List, [], ◌∷◌, ◌++◌, refl, sym, ap₂, ◌∙◌, subst}
use Rattle.std.specs.List.{list_any}
use Rattle.std.proofs.lemmas.Bool.{false≢true, or_cases, and_parts, eqb-true}
use Rattle.answers.specs.AnswerTrees.{Answer, answer, substitute_answers, same_answer, added, all_added, each_once, IsSame}
use Rattle.answered_lines.proofs.AnswerInstances.{leading, clause_led, answers_led}
use Rattle.derivation.proofs.Values.{true_in, vals, vals_of, vals_put, atom_true, clause_put, inside, val_within, atoms_put}
use Rattle.fol_core.specs.Literals.{ClauseTree}
use Rattle.fol_core.specs.Meaning.{Meaning, IsLawful}
use Rattle.fol_core.specs.Substitutions.{Substitution}
use Rattle.fol_core.specs.Truth.{Assignment, IsWithin}
use Rattle.substitutions.specs.Atoms.{AreAtoms}
use Rattle.substitutions.specs.Instances.{substitute_clause}
use Rattle.unifiers.specs.Matching.{same_trees}
use Rattle.unifiers.proofs.MatchesFound.{trees_same}

same_is : (a b : Answer) → IsTrue (same_answer a b) → a ≡ b
same_is a b h =
    let parts = and_parts (a.goal == b.goal) (same_trees a.terms b.terms) h in
    ap₂ answer (eqb-true a.goal b.goal parts.0) (trees_same a.terms b.terms parts.1)

-- an answer fails where its goal's number and the values of its terms have this property, whatever it is
module _ (m : Meaning) (lawful : IsLawful m) (Fails : ℕ → List ℕ → Type 0) where
  abbrev pub AllFail : Assignment → List Answer → Type 0
  AllFail e [] = Unit {0}
  AllFail e (a ∷ us) = Fails a.goal (vals m (inside m lawful) e a.terms) × AllFail e us

module _ (m : Meaning) (lawful : IsLawful m) (Fails : ℕ → List ℕ → Type 0) where
  -- terms put in are elements assigned
  pub fail_put : (e : Assignment) (s : Substitution) (us : List Answer) → AllFail m lawful Fails e (substitute_answers s us) → AllFail m lawful Fails (vals_of m (inside m lawful) e s) us
  fail_put e s [] h = tt
  fail_put e s (a ∷ us) h = (subst (Fails a.goal) (vals_put m (inside m lawful) e s a.terms) h.0, fail_put e s us h.1)

  pub fail_left : (e : Assignment) (us bs : List Answer) → AllFail m lawful Fails e (us ++ bs) → AllFail m lawful Fails e us
  fail_left e [] bs h = tt
  fail_left e (a ∷ us) bs h = (h.0, fail_left e us bs h.1)

  pub fail_right : (e : Assignment) (us bs : List Answer) → AllFail m lawful Fails e (us ++ bs) → AllFail m lawful Fails e bs
  fail_right e [] bs h = h
  fail_right e (a ∷ us) bs h = fail_right e us bs h.1

  fail_among : (e : Assignment) (us : List Answer) (a : Answer) → AllFail m lawful Fails e us → IsTrue (list_any (same_answer a) us) → Fails a.goal (vals m (inside m lawful) e a.terms)
  fail_among e [] a h i = absurd (false≢true i)
  fail_among e (b ∷ us) a h i = elim (or_cases (same_answer a b) (list_any (same_answer a) us) i) [
    | inl here ↦ subst (λ c. Fails c.goal (vals m (inside m lawful) e c.terms)) (sym (same_is a b here)) h.0
    | inr there ↦ fail_among e us a h.1 there
  ]

  fail_added : (e : Assignment) (us : List Answer) (a : Answer) → AllFail m lawful Fails e (added us a) → AllFail m lawful Fails e us × Fails a.goal (vals m (inside m lawful) e a.terms)
  fail_added e us a = by (list_any (same_answer a) us) refl
    where
      by : (b : Bool) → list_any (same_answer a) us ≡ b → AllFail m lawful Fails e (if b then us else us ++ a ∷ []) → AllFail m lawful Fails e us × Fails a.goal (vals m (inside m lawful) e a.terms)
      by true i h = (h, fail_among e us a h i)
      by false i h = (fail_left e us (a ∷ []) h, (fail_right e us (a ∷ []) h).0)

  fail_all_added : (e : Assignment) (us bs : List Answer) → AllFail m lawful Fails e (all_added us bs) → AllFail m lawful Fails e us × AllFail m lawful Fails e bs
  fail_all_added e us [] h = (h, tt)
  fail_all_added e us (b ∷ bs) h =
      let rest = fail_all_added e (added us b) bs h in
      let first = fail_added e us b rest.0 in
      (first.0, (first.1, rest.1))

  -- so repeated answers can be left out
  pub fail_each : (e : Assignment) (us : List Answer) → AllFail m lawful Fails e (each_once us) → AllFail m lawful Fails e us
  fail_each e us h = (fail_all_added e [] us h).1

  abbrev pub IsGood : ClauseTree → List Answer → Type 0
  IsGood c us = ((e : Assignment) → IsWithin m e → AllFail m lawful Fails e us → IsTrue (true_in (atom_true m (inside m lawful) e) c)) × AreAtoms c

  pub good_put : (s : Substitution) (c : ClauseTree) (us : List Answer) → IsGood c us → IsGood (substitute_clause s c) (substitute_answers s us)
  good_put s c us good = (
    λ e w fail. clause_put m (inside m lawful) e s c good.1 ∙ good.0 (vals_of m (inside m lawful) e s) (λ x. val_within m lawful e w (s x)) (fail_put e s us fail),
    atoms_put s c good.1,
  )

  pub good_each : (c : ClauseTree) (us : List Answer) → IsGood c us → IsGood c (each_once us)
  good_each c us good = (λ e w fail. good.0 e w (fail_each e us fail), good.1)

  -- another name of each variable
  pub good_same : (c : ClauseTree) (us : List Answer) (d : ClauseTree) (bs : List Answer) → IsSame c us d bs → IsGood d bs → IsGood c us
  good_same c us d bs same good =
      let s = leading d bs c us in
      subst (λ z. IsGood z us) (sym (clause_led c us d bs same)) (subst (IsGood (substitute_clause s d)) (sym (answers_led c us d bs same)) (good_put s d bs good))
