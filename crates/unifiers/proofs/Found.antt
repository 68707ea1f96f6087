-- The unifier that is found is most general, and where none is found there is none.
use Rattle.std.proofs.Common.{◌≡◌, inl, inr, ℕ, zero, suc, ◌+◌, ◌≤◌, ◌<◌, Bool, true, false, ◌==◌, if◌then◌else◌, IsTrue, List, [], ◌∷◌, ◌++◌, length, Option, Some, None, option_map, refl, sym, ap, ◌∙◌, subst, arith}
use Rattle.std.proofs.lemmas.Bool.{or_left, or_right, or_cases, eq-eqb, eqb-true, false≢true, both_ways, cases_Bool}
use Rattle.std.proofs.lemmas.List.{length-append}
use Rattle.std.proofs.lemmas.List.Folds.{list_any-append}
use Rattle.fol_core.specs.Free.{is_in, without, variables_of_all}
use Rattle.fol_core.specs.Substitutions.{Substitution, substitute, substitute_all}
use Rattle.fol_core.specs.Tree.{Tree, var, elem, app, Trees, none, more}
use Rattle.fol_core.proofs.Variables.{is_in_without}
use Rattle.substitutions.specs.Bindings.{Binding}
use Rattle.substitutions.specs.Instances.{followed}
use Rattle.substitutions.specs.Occurring.{has_variable, have_variable}
use Rattle.substitutions.proofs.Composing.{substitute_twice, substitute_twice_all, substitute_alike, substitute_alike_all, have_listed}
use Rattle.unifiers.specs.Unifier.{Unifies, IsMostGeneral, Difference, same, clash, bind, differ_all, only, solution, after_difference, unifier, unifier_of}
use Rattle.unifiers.proofs.Differences.{Told, told_all, Proper, proper_all, no_cycle, after_only}

-- what unifies terms unifies them with a term for a variable that it makes the same
unifies_after : (s : Substitution) (x : ℕ) (t : Tree) (ss ts : Trees) → s x ≡ substitute s t → Unifies s ss ts → Unifies s (substitute_all (only x t) ss) (substitute_all (only x t) ts)
unifies_after s x t ss ts h unifies = same_of ss ∙ unifies ∙ sym (same_of ts)
  where
    same_of : (us : Trees) → substitute_all s (substitute_all (only x t) us) ≡ substitute_all s us
    same_of us = substitute_twice_all (only x t) s us ∙ substitute_alike_all (followed (only x t) s) s us (λ y i. after_only s x t h y)

one_more : (x : ℕ) (t : Tree) (bs : List Binding) (ss ts : Trees) → Told (solution bs) (bind x t) (ss ≡ ts) (Unifies (solution bs) ss ts)
    → ((u : Substitution) → Unifies u ss ts → u x ≡ substitute u t)
    → IsMostGeneral (solution bs) (substitute_all (only x t) ss) (substitute_all (only x t) ts) → IsMostGeneral (solution ((x, t) ∷ bs)) ss ts
one_more x t bs ss ts here makes general = record {
  unifies = sym (substitute_twice_all (only x t) (solution bs) ss) ∙ general.unifies ∙ substitute_twice_all (only x t) (solution bs) ts;
  covers = λ u unifies.
      let covered = general.covers u (unifies_after u x t ss ts (makes u unifies) unifies) in (
        covered.0,
        λ y.
            sym (after_only u x t (makes u unifies) y)
            ∙ substitute_alike u (followed (solution bs) covered.0) (only x t y) (λ z i. covered.1 z)
            ∙ sym (substitute_twice (solution bs) covered.0 (only x t y)),
      );
}

nothing_left : (ss ts : Trees) → ss ≡ ts → IsMostGeneral var ss ts
nothing_left ss ts h = record { unifies = ap (substitute_all var) h; covers = λ u unifies. (u, λ x. refl) }

-- what is found, by what differs first
found_by : (ss ts : Trees) (d : Difference) (go : ℕ → Tree → Option (List Binding)) (bs : List Binding) → ((s : Substitution) → Told s d (ss ≡ ts) (Unifies s ss ts))
    → ((x : ℕ) (t : Tree) (cs : List Binding) → go x t ≡ Some cs → IsMostGeneral (solution cs) (substitute_all (only x t) ss) (substitute_all (only x t) ts))
    → after_difference d (Some []) go ≡ Some bs → IsMostGeneral (solution bs) ss ts
found_by ss ts same go bs tells rest h = let none : [] ≡ bs = cc in subst (λ cs. IsMostGeneral (solution cs) ss ts) none (nothing_left ss ts (tells var))
found_by ss ts clash go bs tells rest h = cc
found_by ss ts (bind x t) go bs tells rest h = by (has_variable x t) (go x t) (rest x t) h
  where
    by : (b : Bool) (o : Option (List Binding)) → ((cs : List Binding) → o ≡ Some cs → IsMostGeneral (solution cs) (substitute_all (only x t) ss) (substitute_all (only x t) ts))
        → (if b then None else option_map (λ cs. (x, t) ∷ cs) o) ≡ Some bs → IsMostGeneral (solution bs) ss ts
    by true o rest h = cc
    by false None rest h = cc
    by false (Some cs) rest h =
        let is : (x, t) ∷ cs ≡ bs = cc in
        subst (λ ds. IsMostGeneral (solution ds) ss ts) is (one_more x t cs ss ts (tells (solution cs)) (λ u unifies. tells u unifies) (rest cs refl))

pub unifier_general : (k : ℕ) (ss ts : Trees) (bs : List Binding) → unifier k ss ts ≡ Some bs → IsMostGeneral (solution bs) ss ts
unifier_general zero ss ts bs h = found_by ss ts (differ_all ss ts) (λ x t. None) bs (λ s. told_all s ss ts) (λ x t cs e. cc) h
unifier_general (suc k) ss ts bs h =
    found_by ss ts (differ_all ss ts) (λ x t. unifier k (substitute_all (only x t) ss) (substitute_all (only x t) ts)) bs (λ s. told_all s ss ts)
    (λ x t cs e. unifier_general k (substitute_all (only x t) ss) (substitute_all (only x t) ts) cs e) h

-- the variables are among those of a list
abbrev Among : List ℕ → ℕ → Type 0
Among xs x = IsTrue (is_in x xs)

-- one that is listed is not when it is left out
length_without : (x : ℕ) (xs : List ℕ) → length (without x xs) ≤ length xs
length_without x [] = omega arith
length_without x (y ∷ ys) = by (y == x) (length_without x ys)
  where
    by : (b : Bool) → length (without x ys) ≤ length ys → length (if b then without x ys else y ∷ without x ys) ≤ suc (length ys)
    by true h = omega arith
    by false h = omega arith

length_less : (x : ℕ) (xs : List ℕ) → IsTrue (is_in x xs) → length (without x xs) < length xs
length_less x [] i = absurd (false≢true i)
length_less x (y ∷ ys) i = by (y == x) refl (λ j. length_less x ys j)
  where
    by : (b : Bool) → (y == x) ≡ b → (IsTrue (is_in x ys) → length (without x ys) < length ys) → length (if b then without x ys else y ∷ without x ys) < suc (length ys)
    by true e rest = let le = length_without x ys in omega arith
    by false e rest = elim (or_cases (x == y) (is_in x ys) i) [
      | inl j ↦ absurd (both_ways (y == x) e (eq-eqb y x (sym (eqb-true x y j))))
      | inr j ↦ let lt = rest j in omega arith
    ]

mutual
  -- the variables with a term put in for one of them
  left_term : (x : ℕ) (t : Tree) (xs : List ℕ) (u : Tree) → has_variable x t ≡ false → ((y : ℕ) → IsTrue (has_variable y t) → Among xs y) → ((y : ℕ) → IsTrue (has_variable y u) → Among xs y)
      → (y : ℕ) → IsTrue (has_variable y (substitute (only x t) u)) → Among (without x xs) y
  left_term x t xs (var z) apart h k y i = by (z == x) refl i
    where
      others : (w : ℕ) → (w == x) ≡ false → Among xs w → Among (without x xs) w
      others w e j = is_in_without w x xs ∙ ap (λ b. if b then false else is_in w xs) e ∙ j

      by : (b : Bool) → (z == x) ≡ b → IsTrue (has_variable y (if b then t else var z)) → Among (without x xs) y
      by true e i = elim (cases_Bool (y == x)) [
        | inl j ↦ absurd (both_ways (has_variable x t) apart (subst (λ w. IsTrue (has_variable w t)) (eqb-true y x j) i))
        | inr j ↦ others y j (h y i)
      ]
      by false e i = others y (ap (λ w. w == x) (eqb-true y z i) ∙ e) (k y i)
  left_term x t xs (elem n) apart h k y i = absurd (false≢true i)
  left_term x t xs (app f us) apart h k y i = left_terms x t xs us apart h k y i

  left_terms : (x : ℕ) (t : Tree) (xs : List ℕ) (us : Trees) → has_variable x t ≡ false → ((y : ℕ) → IsTrue (has_variable y t) → Among xs y) → ((y : ℕ) → IsTrue (have_variable y us) → Among xs y)
      → (y : ℕ) → IsTrue (have_variable y (substitute_all (only x t) us)) → Among (without x xs) y
  left_terms x t xs none apart h k y i = absurd (false≢true i)
  left_terms x t xs (more u us) apart h k y i = elim (or_cases (has_variable y (substitute (only x t) u)) (have_variable y (substitute_all (only x t) us)) i) [
    | inl j ↦ left_term x t xs u apart h (λ z l. k z (or_left (has_variable z u) (have_variable z us) l)) y j
    | inr j ↦ left_terms x t xs us apart h (λ z l. k z (or_right (has_variable z u) (have_variable z us) l)) y j
  ]

-- where nothing is found, by what differs first
none_by : (xs : List ℕ) (ss ts : Trees) (d : Difference) (go : ℕ → Tree → Option (List Binding)) (u : Substitution) → Told u d (ss ≡ ts) (Unifies u ss ts) → Proper (Among xs) d
    → ((x : ℕ) (t : Tree) → Among xs x → has_variable x t ≡ false → ((y : ℕ) → IsTrue (has_variable y t) → Among xs y) → go x t ≡ None
    → ¬ Unifies u (substitute_all (only x t) ss) (substitute_all (only x t) ts))
    → after_difference d (Some []) go ≡ None → ¬ Unifies u ss ts
none_by xs ss ts same go u tells made rest h unifies = cc
none_by xs ss ts clash go u tells made rest h unifies = tells unifies
none_by xs ss ts (bind x t) go u tells made rest h unifies = by (has_variable x t) refl (go x t) refl h
  where
    by : (b : Bool) → has_variable x t ≡ b → (o : Option (List Binding)) → go x t ≡ o → (if b then None else option_map (λ cs. (x, t) ∷ cs) o) ≡ None → ⊥
    by true e o is h = no_cycle u x t e made.2 (tells unifies)
    by false e None is h = rest x t made.0 e made.1 is (unifies_after u x t ss ts (tells unifies) unifies)
    by false e (Some cs) is h = cc

none_found : (k : ℕ) (xs : List ℕ) (ss ts : Trees) (u : Substitution) → length xs ≤ k → ((x : ℕ) → IsTrue (have_variable x ss) → Among xs x) → ((x : ℕ) → IsTrue (have_variable x ts) → Among xs x)
    → unifier k ss ts ≡ None → ¬ Unifies u ss ts
none_found zero xs ss ts u le h i e =
    none_by xs ss ts (differ_all ss ts) (λ x t. None) u (told_all u ss ts) (proper_all (Among xs) ss ts h i)
    (λ x t there apart inside n. let lt = length_less x xs there in absurd (omega arith)) e
none_found (suc k) xs ss ts u le h i e =
    none_by xs ss ts (differ_all ss ts) (λ x t. unifier k (substitute_all (only x t) ss) (substitute_all (only x t) ts)) u (told_all u ss ts) (proper_all (Among xs) ss ts h i)
    (λ x t there apart inside n.
    let lt : length (without x xs) < length xs = length_less x xs there in
    none_found k (without x xs) (substitute_all (only x t) ss) (substitute_all (only x t) ts) u (omega arith)
    (left_terms x t xs ss apart inside h) (left_terms x t xs ts apart inside i) n) e

pub most_general : (ss ts : Trees) (bs : List Binding) → unifier_of ss ts ≡ Some bs → IsMostGeneral (solution bs) ss ts
most_general ss ts bs h = unifier_general (length (variables_of_all ss) + length (variables_of_all ts)) ss ts bs h

-- so many rounds as there are variables are enough
pub none_within : (k : ℕ) (ss ts : Trees) (u : Substitution) → length (variables_of_all ss) + length (variables_of_all ts) ≤ k → unifier k ss ts ≡ None → ¬ Unifies u ss ts
none_within k ss ts u le h =
    none_found k (variables_of_all ss ++ variables_of_all ts) ss ts u (omega (arith, length-append (variables_of_all ss) (variables_of_all ts)))
    (λ x i. list_any-append (λ y. x == y) (variables_of_all ss) (variables_of_all ts) ∙ or_left (is_in x (variables_of_all ss)) (is_in x (variables_of_all ts)) (sym (have_listed x ss) ∙ i))
    (λ x i. list_any-append (λ y. x == y) (variables_of_all ss) (variables_of_all ts) ∙ or_right (is_in x (variables_of_all ss)) (is_in x (variables_of_all ts)) (sym (have_listed x ts) ∙ i))
    h

pub none_there : (ss ts : Trees) (u : Substitution) → unifier_of ss ts ≡ None → ¬ Unifies u ss ts
none_there ss ts u h = none_within (length (variables_of_all ss) + length (variables_of_all ts)) ss ts u (omega arith) h
