-- Sets of variables, as tests, and lists in which none stands twice.
use Rattle.std.proofs.Common.{◌≡◌, ◌⊎◌, inl, inr, ℕ, Bool, true, false, ◌==◌, ◌||◌, if◌then◌else◌, IsTrue, List, [], ◌∷◌, ◌++◌, refl, sym, ap, ◌∙◌, subst}
use Rattle.std.proofs.lemmas.Bool.{or_left, or_right, or_parts, or_cases, eqb-true, false≢true}
use Rattle.std.proofs.lemmas.List.Folds.{list_any-append}
use Rattle.fol_core.specs.Bound.{IsOnce}
use Rattle.fol_core.specs.Free.{is_in, joined, without}
use Rattle.fol_core.proofs.Variables.{is_in_joined, is_in_without}

abbrev pub Set : Type 0
Set = ℕ → Bool

-- the set with one more number, and with those of a list
abbrev pub plus : ℕ → Set → Set
plus x u = λ y. y == x || u y

abbrev pub also : List ℕ → Set → Set
also xs u = λ y. is_in y xs || u y

-- each number of one is in the other
abbrev pub Sub : Set → Set → Type 0
Sub u v = (y : ℕ) → IsTrue (u y) → IsTrue (v y)

-- the numbers of a list are in the set, or none is
abbrev pub In : List ℕ → Set → Type 0
In xs u = (y : ℕ) → IsTrue (is_in y xs) → IsTrue (u y)

abbrev pub Out : List ℕ → Set → Type 0
Out xs u = (y : ℕ) → IsTrue (is_in y xs) → u y ≡ false

pub sub_plus : (x : ℕ) (u : Set) → Sub u (plus x u)
sub_plus x u y i = or_right (y == x) (u y) i

pub sub_also : (xs : List ℕ) (u : Set) → Sub u (also xs u)
sub_also xs u y i = or_right (is_in y xs) (u y) i

pub in_appended : (y : ℕ) (xs ys : List ℕ) → is_in y (xs ++ ys) ≡ (is_in y xs || is_in y ys)
in_appended y xs ys = list_any-append (λ z. y == z) xs ys

pub in_left : (y : ℕ) (xs ys : List ℕ) → IsTrue (is_in y xs) → IsTrue (is_in y (xs ++ ys))
in_left y xs ys i = in_appended y xs ys ∙ or_left (is_in y xs) (is_in y ys) i

pub in_right : (y : ℕ) (xs ys : List ℕ) → IsTrue (is_in y ys) → IsTrue (is_in y (xs ++ ys))
in_right y xs ys i = in_appended y xs ys ∙ or_right (is_in y xs) (is_in y ys) i

pub in_cases : (y : ℕ) (xs ys : List ℕ) → IsTrue (is_in y (xs ++ ys)) → IsTrue (is_in y xs) ⊎ IsTrue (is_in y ys)
in_cases y xs ys i = or_cases (is_in y xs) (is_in y ys) (sym (in_appended y xs ys) ∙ i)

-- the variables of two parts
pub joined_left : (xs ys : List ℕ) (u : Set) → In (joined xs ys) u → In xs u
joined_left xs ys u h y i = h y (is_in_joined y xs ys ∙ or_left (is_in y xs) (is_in y ys) i)

pub joined_right : (xs ys : List ℕ) (u : Set) → In (joined xs ys) u → In ys u
joined_right xs ys u h y i = h y (is_in_joined y xs ys ∙ or_right (is_in y xs) (is_in y ys) i)

-- those under a quantifier
pub under : (x : ℕ) (xs : List ℕ) (u : Set) → In (without x xs) u → In xs (plus x u)
under x xs u h y i = by (y == x) refl
  where
    by : (b : Bool) → (y == x) ≡ b → IsTrue (b || u y)
    by true e = refl
    by false e = h y (is_in_without y x xs ∙ ap (λ b. if b then false else is_in y xs) e ∙ i)

pub once_left : (xs ys : List ℕ) → IsOnce (xs ++ ys) → IsOnce xs
once_left [] ys h = tt
once_left (x ∷ xs) ys h = ((or_parts (is_in x xs) (is_in x ys) (sym (in_appended x xs ys) ∙ h.0)).0, once_left xs ys h.1)

pub once_right : (xs ys : List ℕ) → IsOnce (xs ++ ys) → IsOnce ys
once_right [] ys h = h
once_right (x ∷ xs) ys h = once_right xs ys h.1

-- what is in the first part isn't in the second
pub once_apart : (xs ys : List ℕ) → IsOnce (xs ++ ys) → (y : ℕ) → IsTrue (is_in y xs) → is_in y ys ≡ false
once_apart [] ys h y i = absurd (false≢true i)
once_apart (x ∷ xs) ys h y i = elim (or_cases (y == x) (is_in y xs) i) [
  | inl e ↦ subst (λ z. is_in z ys ≡ false) (sym (eqb-true y x e)) (or_parts (is_in x xs) (is_in x ys) (sym (in_appended x xs ys) ∙ h.0)).1
  | inr j ↦ once_apart xs ys h.1 y j
]
