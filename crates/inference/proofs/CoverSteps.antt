-- Variables of terms among those of another, term by term.
use Rattle.std.proofs.Common.{◌≡◌, ℕ, suc, ◌+◌, ◌<◌, ◌≤◌, Bool, true, false, ◌&&◌, ◌==◌, if◌then◌else◌, IsTrue, List, [], ◌∷◌, ◌++◌, length, get_or, drop, refl, sym, ap, ◌∙◌, inl, inr, add-one, drop-cons}
use Rattle.std.specs.List.{list_all}
use Rattle.std.proofs.lemmas.Bool.{or_cases, eqb-true, false≢true}
use Rattle.std.proofs.lemmas.List.{drop_all}
use Rattle.std.proofs.lemmas.List.Folds.{list_all-append}
use Rattle.fol_core.specs.Free.{is_in, noted, joined, variables_of, variables_of_all}
use Rattle.fol_core.specs.TermView.{tree_of, tree_list}
use Rattle.fol_core.specs.Tree.{Tree, trees_of}
use Rattle.fol_core.specs.declared.term.Term.{Term}
use Rattle.substitutions.specs.Occurring.{has_variable}

in_all : (p : ℕ → Bool) (xs : List ℕ) (x : ℕ) → IsTrue (is_in x xs) → list_all p xs ≡ (list_all p xs && p x)
in_all p [] x i = absurd (false≢true i)
in_all p (y ∷ ys) x i = by (p y) (list_all p ys) (λ j. in_all p ys x j) refl
  where
    by : (b a : Bool) → (IsTrue (is_in x ys) → list_all p ys ≡ (list_all p ys && p x)) → list_all p ys ≡ a → (p y && list_all p ys) ≡ ((p y && list_all p ys) && p x)
    by b a rest is = elim (or_cases (x == y) (is_in x ys) i) [
      | inl e ↦ same (p y) (list_all p ys) ∙ ap (λ z. (p y && list_all p ys) && p z) (sym (eqb-true x y e))
      | inr j ↦ ap (λ c. p y && c) (rest j) ∙ sym (assoc (p y) (list_all p ys) (p x))
    ]
      where
        same : (c d : Bool) → (c && d) ≡ ((c && d) && c)
        same true true = refl
        same true false = refl
        same false d = refl

        assoc : (c d e : Bool) → ((c && d) && e) ≡ (c && (d && e))
        assoc true d e = refl
        assoc false d e = refl

noted_all : (p : ℕ → Bool) (xs : List ℕ) (y : ℕ) → list_all p (noted xs y) ≡ (list_all p xs && p y)
noted_all p xs y = by (is_in y xs) refl
  where
    last : (b : Bool) → (b && true) ≡ b
    last true = refl
    last false = refl

    by : (b : Bool) → is_in y xs ≡ b → list_all p (if b then xs else xs ++ y ∷ []) ≡ (list_all p xs && p y)
    by true e = in_all p xs y e
    by false e = list_all-append p xs (y ∷ []) ∙ ap (λ c. list_all p xs && c) (last (p y))

joined_all : (p : ℕ → Bool) (xs ys : List ℕ) → list_all p (joined xs ys) ≡ (list_all p xs && list_all p ys)
joined_all p xs [] = sym (last (list_all p xs))
  where
    last : (b : Bool) → (b && true) ≡ b
    last true = refl
    last false = refl
joined_all p xs (y ∷ ys) = joined_all p (noted xs y) ys ∙ ap (λ b. b && list_all p ys) (noted_all p xs y) ∙ assoc (list_all p xs) (p y) (list_all p ys)
  where
    assoc : (c d e : Bool) → ((c && d) && e) ≡ (c && (d && e))
    assoc true d e = refl
    assoc false d e = refl

drop_next : (ts : List Term) (i : ℕ) (t : Term) → i < length ts → t ≡ get_or ts i t → drop i ts ≡ t ∷ drop (i + 1) ts
drop_next ts i t h is = rw (add-one, drop-cons ts i t) (ap (λ u. u ∷ drop (suc i) ts) (sym is))

-- whether the variables of the terms from one place on are another's
abbrev pub covered_from : Tree → List Term → ℕ → Bool
covered_from left ts i = list_all (λ x. has_variable x left) (variables_of_all (trees_of (tree_list (drop i ts))))

covered_step : (left : Tree) (ts : List Term) (i : ℕ) (t : Term) → i < length ts → t ≡ get_or ts i t
    → covered_from left ts i ≡ (list_all (λ x. has_variable x left) (variables_of (tree_of t)) && covered_from left ts (i + 1))
covered_step left ts i t h is =
    ap (λ us. list_all (λ x. has_variable x left) (variables_of_all (trees_of (tree_list us)))) (drop_next ts i t h is)
    ∙ joined_all (λ x. has_variable x left) (variables_of (tree_of t)) (variables_of_all (trees_of (tree_list (drop (i + 1) ts))))

pub covered_no : (left : Tree) (ts : List Term) (i : ℕ) (t : Term) → i < length ts → t ≡ get_or ts i t → list_all (λ x. has_variable x left) (variables_of (tree_of t)) ≡ false → covered_from left ts i ≡ false
covered_no left ts i t h is e = covered_step left ts i t h is ∙ ap (λ b. b && covered_from left ts (i + 1)) e

pub covered_on : (left : Tree) (ts : List Term) (i : ℕ) (t : Term) → i < length ts → t ≡ get_or ts i t → list_all (λ x. has_variable x left) (variables_of (tree_of t)) ≡ true
    → covered_from left ts i ≡ covered_from left ts (i + 1)
covered_on left ts i t h is e = covered_step left ts i t h is ∙ ap (λ b. b && covered_from left ts (i + 1)) e

pub covered_end : (left : Tree) (ts : List Term) (i : ℕ) → length ts ≤ i → covered_from left ts i ≡ true
covered_end left ts i h = ap (λ us. list_all (λ x. has_variable x left) (variables_of_all (trees_of (tree_list us)))) (drop_all i ts h)
