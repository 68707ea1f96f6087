-- How often variables stand in terms, and sums over all places of variables.
use Rattle.std.proofs.Common.{◌≡◌, ℕ, zero, suc, ◌+◌, ◌≤◌, Bool, true, false, ◌==◌, ◌||◌, if◌then◌else◌, List, [], ◌∷◌, ◌++◌, inl, inr, refl, sym, ap, ap₂, ◌∙◌, eq-eqb, eqb-true, arith, subst}
use Rattle.std.proofs.lemmas.Bool.Decides.{nat_tests}
use Rattle.fol_core.specs.Substitutions.{Substitution, substitute, substitute_all}
use Rattle.fol_core.specs.Tree.{Tree, var, elem, app, Trees, none, more}
use Rattle.substitutions.specs.Occurring.{has_variable, have_variable}
use Rattle.term_order.specs.Kbo.{times_in, times_in_all, none_oftener, none_oftener_all}
use Rattle.term_order.proofs.Tests.{split_and, both_and, split_or, left_or, right_or}

-- the variables at their places, from left to right
abbrev mutual
  pub places_in : Tree → List ℕ
  places_in (var x) = x ∷ []
  places_in (elem k) = []
  places_in (app f ts) = places_in_all ts

  pub places_in_all : Trees → List ℕ
  places_in_all none = []
  places_in_all (more t ts) = places_in t ++ places_in_all ts

abbrev pub times : ℕ → List ℕ → ℕ
times x [] = 0
times x (y ∷ ys) = (if x == y then 1 else 0) + times x ys

abbrev pub total : (ℕ → ℕ) → List ℕ → ℕ
total e [] = 0
total e (y ∷ ys) = e y + total e ys

times_both : (x : ℕ) (xs ys : List ℕ) → times x (xs ++ ys) ≡ times x xs + times x ys
times_both x [] ys = omega arith
times_both x (z ∷ xs) ys = (let h = times_both x xs ys in omega (arith, h))

pub total_both : (e : ℕ → ℕ) (xs ys : List ℕ) → total e (xs ++ ys) ≡ total e xs + total e ys
total_both e [] ys = omega arith
total_both e (z ∷ xs) ys = (let h = total_both e xs ys in omega (arith, h))

mutual
  pub times_placed : (x : ℕ) (t : Tree) → times_in x t ≡ times x (places_in t)
  times_placed x (var y) = omega arith
  times_placed x (elem k) = refl
  times_placed x (app f ts) = times_placed_all x ts

  pub times_placed_all : (x : ℕ) (ts : Trees) → times_in_all x ts ≡ times x (places_in_all ts)
  times_placed_all x none = refl
  times_placed_all x (more t ts) =
      ap₂ (λ a b. a + b) (times_placed x t) (times_placed_all x ts) ∙ sym (times_both x (places_in t) (places_in_all ts))

-- one place less of a variable
abbrev without_one : ℕ → List ℕ → List ℕ
without_one x [] = []
without_one x (y ∷ ys) = if x == y then ys else y ∷ without_one x ys

total_without : (e : ℕ → ℕ) (x : ℕ) (ys : List ℕ) → 1 ≤ times x ys → total e ys ≡ e x + total e (without_one x ys)
total_without e x [] h = (let no : ⊥ = omega (arith, h) in elim no [ ])
total_without e x (y ∷ ys) h = by (λ k. total_without e x ys k) (x == y) refl h
  where
    by : (1 ≤ times x ys → total e ys ≡ e x + total e (without_one x ys)) → (b : Bool) → (x == y) ≡ b → 1 ≤ (if b then 1 else 0) + times x ys
        → e y + total e ys ≡ e x + total e (if b then ys else y ∷ without_one x ys)
    by on true i k = ap (λ z. e z + total e ys) (sym (eqb-true x y i))
    by on false i k = (let r = on (omega (arith, k)) in omega (arith, r))

times_without : (x : ℕ) (ys : List ℕ) (z : ℕ) → 1 ≤ times x ys → times z ys ≡ (if z == x then 1 else 0) + times z (without_one x ys)
times_without x [] z h = (let no : ⊥ = omega (arith, h) in elim no [ ])
times_without x (y ∷ ys) z h = by (λ k. times_without x ys z k) (x == y) refl h
  where
    by : (1 ≤ times x ys → times z ys ≡ (if z == x then 1 else 0) + times z (without_one x ys)) → (b : Bool) → (x == y) ≡ b
        → 1 ≤ (if b then 1 else 0) + times x ys
        → (if z == y then 1 else 0) + times z ys ≡ (if z == x then 1 else 0) + times z (if b then ys else y ∷ without_one x ys)
    by on true i k = ap (λ w. (if z == w then 1 else 0) + times z ys) (sym (eqb-true x y i))
    by on false i k = (let r = on (omega (arith, k)) in omega (arith, r))

-- sums over places grow where no variable stands less often
pub total_grows : (e : ℕ → ℕ) (xs ys : List ℕ) → ((z : ℕ) → times z xs ≤ times z ys) → total e xs ≤ total e ys
total_grows e [] ys h = omega arith
total_grows e (x ∷ xs) ys h =
    let there : 1 ≤ times x ys = at_least (h x) in
    let rest : total e xs ≤ total e (without_one x ys) = total_grows e xs (without_one x ys) (λ z. left z (h z) (times_without x ys z there)) in
    let whole = total_without e x ys there in
    omega (arith, rest, whole)
  where
    same : (x == x) ≡ true
    same = eq-eqb x x refl

    at_least : times x (x ∷ xs) ≤ times x ys → 1 ≤ times x ys
    at_least k = (let i : ◌≡◌ {A = ℕ} (if x == x then 1 else 0) 1 = ap (λ (b : Bool). if b then 1 else 0) same in omega (arith, k, i))

    left : (z : ℕ) → times z (x ∷ xs) ≤ times z ys → times z ys ≡ (if z == x then 1 else 0) + times z (without_one x ys)
        → times z xs ≤ times z (without_one x ys)
    left z k i = omega (arith, k, i)

-- of terms: no variable stands in the second list more often
abbrev pub HasEach : Trees → Trees → Type 0
HasEach ss ts = (z : ℕ) → times_in_all z ts ≤ times_in_all z ss

pub places_grow : (e : ℕ → ℕ) (ss ts : Trees) → HasEach ss ts → total e (places_in_all ts) ≤ total e (places_in_all ss)
places_grow e ss ts h =
    total_grows e (places_in_all ts) (places_in_all ss) (λ z. by z (h z) (times_placed_all z ts) (times_placed_all z ss))
  where
    by : (z : ℕ) → times_in_all z ts ≤ times_in_all z ss → times_in_all z ts ≡ times z (places_in_all ts) → times_in_all z ss ≡ times z (places_in_all ss)
        → times z (places_in_all ts) ≤ times z (places_in_all ss)
    by z a b c = omega (arith, a, b, c)

pub place_counts : (e : ℕ → ℕ) (ss : Trees) (y : ℕ) → 1 ≤ times_in_all y ss → e y ≤ total e (places_in_all ss)
place_counts e ss y h =
    let r = total_without e y (places_in_all ss) (subst (λ (n : ℕ). 1 ≤ n) (times_placed_all y ss) h) in
    omega (arith, r)

-- a variable stands where it stands at least once
mutual
  pub once : (x : ℕ) (t : Tree) → has_variable x t ≡ true → 1 ≤ times_in x t
  once x (var y) h = (let i : ◌≡◌ {A = ℕ} (if x == y then 1 else 0) 1 = ap (λ (b : Bool). if b then 1 else 0) h in omega (arith, i))
  once x (elem k) h = cc
  once x (app f ts) h = once_all x ts h

  pub once_all : (x : ℕ) (ts : Trees) → have_variable x ts ≡ true → 1 ≤ times_in_all x ts
  once_all x none h = cc
  once_all x (more t ts) h = elim (split_or (has_variable x t) (have_variable x ts) h) [
    | inl i ↦ (let a = once x t i in omega (arith, a))
    | inr i ↦ (let a = once_all x ts i in omega (arith, a))
  ]

mutual
  pub stands : (x : ℕ) (t : Tree) → 1 ≤ times_in x t → has_variable x t ≡ true
  stands x (var y) h = by (x == y) h
    where
      by : (b : Bool) → 1 ≤ (if b then 1 else 0) → b ≡ true
      by true k = refl
      by false k = (let no : ⊥ = omega (arith, k) in elim no [ ])
  stands x (elem k) h = (let no : ⊥ = omega (arith, h) in elim no [ ])
  stands x (app f ts) h = stands_all x ts h

  pub stands_all : (x : ℕ) (ts : Trees) → 1 ≤ times_in_all x ts → have_variable x ts ≡ true
  stands_all x none h = (let no : ⊥ = omega (arith, h) in elim no [ ])
  stands_all x (more t ts) h = by (λ k. stands x t k) (λ k. stands_all x ts k) (times_in x t) refl
    where
      by : (1 ≤ times_in x t → has_variable x t ≡ true) → (1 ≤ times_in_all x ts → have_variable x ts ≡ true) → (n : ℕ) → times_in x t ≡ n
          → (has_variable x t || have_variable x ts) ≡ true
      by here behind zero i = right_or (has_variable x t) (have_variable x ts) (behind (omega (arith, h, i)))
      by here behind (suc n) i = left_or (has_variable x t) (have_variable x ts) (here (omega (arith, i)))

-- the test over all variables of a list says so of each variable
mutual
  tested_in : (ss ts : Trees) (u : Tree) (z : ℕ) → none_oftener ss ts u ≡ true → 1 ≤ times_in z u → times_in_all z ts ≤ times_in_all z ss
  tested_in ss ts (var y) z h k = by (z == y) refl k
    where
      by : (b : Bool) → (z == y) ≡ b → 1 ≤ (if b then 1 else 0) → times_in_all z ts ≤ times_in_all z ss
      by true i k = subst (λ (x : ℕ). times_in_all x ts ≤ times_in_all x ss) (sym (eqb-true z y i)) (grind (arith, nat_tests, h))
      by false i k = (let no : ⊥ = omega (arith, k) in elim no [ ])
  tested_in ss ts (elem n) z h k = (let no : ⊥ = omega (arith, k) in elim no [ ])
  tested_in ss ts (app f us) z h k = tested_all ss ts us z h k

  tested_all : (ss ts us : Trees) (z : ℕ) → none_oftener_all ss ts us ≡ true → 1 ≤ times_in_all z us → times_in_all z ts ≤ times_in_all z ss
  tested_all ss ts none z h k = (let no : ⊥ = omega (arith, k) in elim no [ ])
  tested_all ss ts (more u us) z h k =
      let p = split_and (none_oftener ss ts u) _ h in by (λ l. tested_in ss ts u z p.0 l) (λ l. tested_all ss ts us z p.1 l) (times_in z u) refl
    where
      by : (1 ≤ times_in z u → times_in_all z ts ≤ times_in_all z ss) → (1 ≤ times_in_all z us → times_in_all z ts ≤ times_in_all z ss) → (n : ℕ)
          → times_in z u ≡ n → times_in_all z ts ≤ times_in_all z ss
      by here behind zero i = behind (omega (arith, k, i))
      by here behind (suc n) i = here (omega (arith, i))

pub each_from : (ss ts : Trees) → none_oftener_all ss ts ts ≡ true → HasEach ss ts
each_from ss ts h z = by (times_in_all z ts) refl
  where
    by : (n : ℕ) → times_in_all z ts ≡ n → times_in_all z ts ≤ times_in_all z ss
    by zero i = omega (arith, i)
    by (suc n) i = tested_all ss ts ts z h (omega (arith, i))

mutual
  test_of : (ss ts : Trees) (u : Tree) → HasEach ss ts → none_oftener ss ts u ≡ true
  test_of ss ts (var y) h = (let k = h y in grind (arith, nat_tests, k))
  test_of ss ts (elem n) h = refl
  test_of ss ts (app f us) h = test_of_all ss ts us h

  test_of_all : (ss ts us : Trees) → HasEach ss ts → none_oftener_all ss ts us ≡ true
  test_of_all ss ts none h = refl
  test_of_all ss ts (more u us) h = both_and (none_oftener ss ts u) _ (test_of ss ts u h) (test_of_all ss ts us h)

pub each_test : (ss ts : Trees) → HasEach ss ts → none_oftener_all ss ts ts ≡ true
each_test ss ts h = test_of_all ss ts ts h

-- in instances
module _ (p : Substitution) where
  mutual
    pub times_put : (z : ℕ) (t : Tree) → times_in z (substitute p t) ≡ total (λ x. times_in z (p x)) (places_in t)
    times_put z (var x) = omega arith
    times_put z (elem k) = refl
    times_put z (app f ts) = times_put_all z ts

    pub times_put_all : (z : ℕ) (ts : Trees) → times_in_all z (substitute_all p ts) ≡ total (λ x. times_in z (p x)) (places_in_all ts)
    times_put_all z none = refl
    times_put_all z (more t ts) =
        ap₂ (λ a b. a + b) (times_put z t) (times_put_all z ts) ∙ sym (total_both (λ x. times_in z (p x)) (places_in t) (places_in_all ts))

  pub each_put : (ss ts : Trees) → HasEach ss ts → HasEach (substitute_all p ss) (substitute_all p ts)
  each_put ss ts h z = (let a = places_grow (λ x. times_in z (p x)) ss ts h in let b = times_put_all z ss in let c = times_put_all z ts in omega (arith, a, b, c))
