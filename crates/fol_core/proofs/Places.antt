-- The first place in a list at which a test passes.
use Rattle.std.proofs.Common.{◌≡◌, ℕ, zero, suc, ◌⊎◌, inl, inr, Bool, true, false, List, [], ◌∷◌, ◌++◌, length, Option, Some, None, is_some, unwrap_or, ◌||◌, if◌then◌else◌, position, slice_get, refl, sym, ap, ◌∙◌, arith}
use Rattle.std.specs.List.{list_any, AllByRecursion}
use Rattle.std.specs.Option.{option_map}
use Rattle.fol_core.specs.SymbolTable.{first_place}

module _ {X : Type 0} (test : X → Bool) where
  -- it is what `position` gives
  pub first_place_is_position : (xs : List X) → first_place test xs ≡ position test xs
  first_place_is_position [] = refl
  first_place_is_position (x ∷ xs) = grind (arith, first_place_is_position xs)

  -- there is one where some element passes
  pub first_place-any : (xs : List X) → is_some (first_place test xs) ≡ list_any test xs
  first_place-any [] = refl
  first_place-any (x ∷ xs) = by (test x) (first_place test xs) (first_place-any xs)
    where
      by : (b : Bool) (o : Option ℕ) → is_some o ≡ list_any test xs → is_some (if b then Some 0 else option_map suc o) ≡ (b || list_any test xs)
      by true o rest = refl
      by false None rest = rest
      by false (Some n) rest = rest

  -- the element there passes
  pub first_place-found : (xs : List X) (n : ℕ) → first_place test xs ≡ Some n → (x : X) × (slice_get xs n ≡ Some x) × (test x ≡ true)
  first_place-found [] n h = cc
  first_place-found (x ∷ xs) n h = by (test x) refl (first_place test xs) (first_place-found xs) h
    where
      by : (b : Bool) → test x ≡ b → (o : Option ℕ) → ((m : ℕ) → o ≡ Some m → (y : X) × (slice_get xs m ≡ Some y) × (test y ≡ true))
          → (if b then Some 0 else option_map suc o) ≡ Some n → (y : X) × (slice_get (x ∷ xs) n ≡ Some y) × (test y ≡ true)
      by true e o rest h = (x, ap (λ o. slice_get (x ∷ xs) (unwrap_or o 0)) (sym h), e)
      by false e None rest h = cc
      by false e (Some m) rest h =
          let r = rest m refl in
          (r.0, ap (λ o. slice_get (x ∷ xs) (unwrap_or o 0)) (sym h) ∙ r.1, r.2)

  -- it stays where the list grows at its end
  pub first_place-append : (xs ys : List X) (n : ℕ) → first_place test xs ≡ Some n → first_place test (xs ++ ys) ≡ Some n
  first_place-append [] ys n h = cc
  first_place-append (x ∷ xs) ys n h = by (test x) (first_place test xs) (first_place-append xs ys) h
    where
      by : (b : Bool) (o : Option ℕ) → ((m : ℕ) → o ≡ Some m → first_place test (xs ++ ys) ≡ Some m)
          → (if b then Some 0 else option_map suc o) ≡ Some n → (if b then Some 0 else option_map suc (first_place test (xs ++ ys))) ≡ Some n
      by true o rest h = h
      by false None rest h = cc
      by false (Some m) rest h = ap (option_map suc) (rest m refl) ∙ h

  -- an element at the end that alone passes stands at the old length
  pub first_place-push : (xs : List X) (y : X) → first_place test xs ≡ None → test y ≡ true → first_place test (xs ++ y ∷ []) ≡ Some (length xs)
  first_place-push [] y h e = ap (λ b. if b then Some 0 else None) e
  first_place-push (x ∷ xs) y h e = by (test x) (first_place test xs) (λ f. first_place-push xs y f e) h
    where
      by : (b : Bool) (o : Option ℕ) → (o ≡ None → first_place test (xs ++ y ∷ []) ≡ Some (length xs))
          → (if b then Some 0 else option_map suc o) ≡ None → (if b then Some 0 else option_map suc (first_place test (xs ++ y ∷ []))) ≡ Some (suc (length xs))
      by true o rest h = cc
      by false None rest h = ap (option_map suc) (rest refl)
      by false (Some m) rest h = cc

module _ {X : Type 0} where
  -- an element keeps its place where the list grows at its end
  pub slice_get_more : (xs ys : List X) (n : ℕ) (x : X) → slice_get xs n ≡ Some x → slice_get (xs ++ ys) n ≡ Some x
  slice_get_more [] ys n x h = cc
  slice_get_more (y ∷ xs) ys zero x h = h
  slice_get_more (y ∷ xs) ys (suc n) x h = slice_get_more xs ys n x h

  -- the last element stands at the old length
  pub slice_get_last : (xs : List X) (x : X) → slice_get (xs ++ x ∷ []) (length xs) ≡ Some x
  slice_get_last [] x = refl
  slice_get_last (y ∷ xs) x = slice_get_last xs x

  -- and each other one at its old place
  pub slice_get-push_cases : (xs : List X) (y x : X) (n : ℕ) → slice_get (xs ++ y ∷ []) n ≡ Some x → (slice_get xs n ≡ Some x) ⊎ ((length xs ≡ n) × (y ≡ x))
  slice_get-push_cases [] y x zero h = inr (refl, ap (λ o. unwrap_or o y) h)
  slice_get-push_cases [] y x (suc n) h = cc
  slice_get-push_cases (z ∷ xs) y x zero h = inl h
  slice_get-push_cases (z ∷ xs) y x (suc n) h =
      elim (slice_get-push_cases xs y x n h) [ inl e ↦ inl e | inr e ↦ inr (ap suc e.0, e.1) ]

  pub all_push : (P : X → Type 0) (xs : List X) (x : X) → AllByRecursion P xs → P x → AllByRecursion P (xs ++ x ∷ [])
  all_push P [] x all here = (here, tt)
  all_push P (y ∷ xs) x all here = (all.0, all_push P xs x all.1 here)
