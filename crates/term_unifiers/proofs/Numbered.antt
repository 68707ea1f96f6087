-- Variables numbered by their places in a list.
use Rattle.std.specs.BTreeMap.{is_at}
use Rattle.std.specs.Map.{lookup}
use Rattle.std.specs.Option.{option_map}
use Rattle.std.specs.Ordering.{nat_cmp}
use Rattle.std.proofs.Common.{◌≡◌, ℕ, suc, ◌+◌, ◌≤◌, ◌==◌, Bool, true, false, if◌then◌else◌, refl, sym, ap, subst, ◌∙◌, List, [], ◌∷◌, ◌++◌, length, position, arith, inl, inr, Option, Some, None, is_some, unwrap_or, Result, Ok, Err, IfOk, OnOk}
use Rattle.std.proofs.lemmas.Bool.{cases_eq}
use Rattle.fol_core.specs.Free.{is_in, noted}
use Rattle.fol_core.specs.Renumbered.{place_in}
use Rattle.fol_core.specs.SymbolTable.{first_place}
use Rattle.fol_core.proofs.Places.{first_place_is_position, first_place-any, first_place-append, first_place-push}
use Rattle.term_unifiers.specs.Written.{AreNoted}
use Rattle.term_unifiers.proofs.Bindings.{equal_test, other_test}
use Rattle.term_unifiers.proofs.Entering.{at_other}

shifted : (n m : ℕ) (o : Option ℕ) → m ≡ n + 1 → option_map suc (option_map (λ k. n + k) o) ≡ option_map (λ k. m + k) o
shifted n m None e = refl
shifted n m (Some k) e = let same : suc (n + k) ≡ m + k = omega (arith, e) in ap Some same

unshifted : (o : Option ℕ) → o ≡ option_map (λ k. 0 + k) o
unshifted None = refl
unshifted (Some k) = let same : k ≡ 0 + k = omega arith in ap Some same

module _ {X : Type 0} (test : X → Bool) where
  -- an element at the end that doesn't pass
  first_place-skip : (xs : List X) (y : X) → test y ≡ false → first_place test (xs ++ y ∷ []) ≡ first_place test xs
  first_place-skip [] y e = ap (λ b. if b then Some 0 else None) e
  first_place-skip (x ∷ xs) y e = ap (λ o. if test x then Some 0 else option_map suc o) (first_place-skip xs y e)

  -- where there is none in all, there is none behind
  first_place-none : (xs ys : List X) → first_place test (xs ++ ys) ≡ None → first_place test ys ≡ None
  first_place-none [] ys h = h
  first_place-none (x ∷ xs) ys h = by (test x) (first_place test (xs ++ ys)) (first_place-none xs ys) h
    where
      by : (b : Bool) (o : Option ℕ) → (o ≡ None → first_place test ys ≡ None) → (if b then Some 0 else option_map suc o) ≡ None → first_place test ys ≡ None
      by true o rest h = cc
      by false None rest h = rest refl
      by false (Some m) rest h = cc

  -- and where there is none in front, it is behind
  first_place-behind : (xs ys : List X) → first_place test xs ≡ None → first_place test (xs ++ ys) ≡ option_map (λ k. length xs + k) (first_place test ys)
  first_place-behind [] ys h = unshifted (first_place test ys)
  first_place-behind (x ∷ xs) ys h = by (test x) (first_place test xs) (first_place-behind xs ys) h
    where
      by : (b : Bool) (o : Option ℕ) → (o ≡ None → first_place test (xs ++ ys) ≡ option_map (λ k. length xs + k) (first_place test ys)) → (if b then Some 0 else option_map suc o) ≡ None
          → (if b then Some 0 else option_map suc (first_place test (xs ++ ys))) ≡ option_map (λ k. length (x ∷ xs) + k) (first_place test ys)
      by true o rest h = cc
      by false None rest h = ap (option_map suc) (rest refl) ∙ shifted (length xs) (length (x ∷ xs)) (first_place test ys) (omega arith)
      by false (Some m) rest h = cc

-- a variable that is among the few
pub place_first : (x n : ℕ) (few others : List ℕ) → Some n ≡ position (λ y. x == y) few → Some n ≡ first_place (λ y. x == y) (few ++ others)
place_first x n few others h = sym (first_place-append (λ y. x == y) few others n (first_place_is_position (λ y. x == y) few ∙ sym h))

-- and one that isn't
pub place_behind : (x : ℕ) (few others : List ℕ) (places : List (ℕ × ℕ)) → AreNoted few others places → None ≡ position (λ y. x == y) few → lookup (is_at (nat_cmp x)) places ≡ first_place (λ y. x == y) (few ++ others)
place_behind x few others places is h = is.placed x ∙ sym (first_place-behind (λ y. x == y) few others (first_place_is_position (λ y. x == y) few ∙ sym h))

-- no variables are noted
pub none_noted : (few others : List ℕ) (places : List (ℕ × ℕ)) → others ≡ [] → places ≡ [] → AreNoted few others places
none_noted few others places o e = record {
  full = λ h. o;
  placed = λ x. ap (lookup (is_at (nat_cmp x))) e ∙ sym (ap (λ l. option_map (λ k. length few + k) (first_place (λ y. x == y) l)) o);
}

-- one more behind them
pub others_more : (few others new : List ℕ) (places after : List (ℕ × ℕ)) (x n : ℕ) → AreNoted few others places → first_place (λ y. x == y) (few ++ others) ≡ None → 16 ≤ length few → n ≡ length few + length others → new ≡ others ++ x ∷ []
    → lookup (is_at (nat_cmp x)) after ≡ Some n → ((q : ℕ) → is_at (nat_cmp x) q ≡ false → lookup (is_at (nat_cmp q)) after ≡ lookup (is_at (nat_cmp q)) places) → AreNoted few new after
others_more few others new places after x n is absent many number e here rest = record {
  full = λ g. absurd (omega (arith, g, many));
  placed = λ q. elim (cases_eq x q) [
    | inl s ↦ subst (λ z. lookup (is_at (nat_cmp z)) after ≡ option_map (λ k. length few + k) (first_place (λ y. z == y) new)) s
        (here ∙ ap Some number ∙ sym (ap (option_map (λ k. length few + k)) (ap (first_place (λ y. x == y)) e ∙ first_place-push (λ y. x == y) others x (first_place-none (λ y. x == y) few others absent) (equal_test x x refl))))
    | inr d ↦ rest q (at_other x q d) ∙ is.placed q
        ∙ sym (ap (option_map (λ k. length few + k)) (ap (first_place (λ y. q == y)) e ∙ first_place-skip (λ y. q == y) others x (other_test q x (λ s. d (sym s)))))
  ];
}

-- a variable that is among them
pub noted_there : (xs : List ℕ) (x n : ℕ) → Some n ≡ first_place (λ y. x == y) xs → xs ≡ noted xs x
noted_there xs x n h =
    let there : is_in x xs ≡ true = sym (first_place-any (λ y. x == y) xs) ∙ ap is_some (sym h) in
    sym (ap (λ b. if b then xs else xs ++ x ∷ []) there)

pub number_there : (xs behind : List ℕ) (x n : ℕ) → Some n ≡ first_place (λ y. x == y) xs → n ≡ place_in (xs ++ behind) x
number_there xs behind x n h = sym (ap (λ o. unwrap_or o 0) (first_place-append (λ y. x == y) xs behind n (sym h)))

noted_new : (xs : List ℕ) (x : ℕ) → None ≡ first_place (λ y. x == y) xs → xs ++ x ∷ [] ≡ noted xs x
noted_new xs x h =
    let absent : is_in x xs ≡ false = sym (first_place-any (λ y. x == y) xs) ∙ ap is_some (sym h) in
    sym (ap (λ b. if b then xs else xs ++ x ∷ []) absent)

number_new : (xs behind : List ℕ) (x : ℕ) → None ≡ first_place (λ y. x == y) xs → length xs ≡ place_in ((xs ++ x ∷ []) ++ behind) x
number_new xs behind x h =
    sym (ap (λ o. unwrap_or o 0) (first_place-append (λ y. x == y) (xs ++ x ∷ []) behind (length xs) (first_place-push (λ y. x == y) xs x (sym h) (equal_test x x refl))))

-- and one that gets the next number
pub added_list : {E : Type 0} (r : Result ℕ E) (old new : List ℕ) (x : ℕ) → None ≡ first_place (λ y. x == y) old → OnOk r (new ≡ old ++ x ∷ []) → OnOk r (new ≡ noted old x)
added_list (Ok n) old new x h e = e ∙ noted_new old x h
added_list (Err d) old new x h e = tt

pub added_number : {E : Type 0} (r : Result ℕ E) (old new : List ℕ) (x : ℕ) → None ≡ first_place (λ y. x == y) old → OnOk r (new ≡ old ++ x ∷ []) → IfOk r (λ n. n ≡ length old) → IfOk r (λ n. (behind : List ℕ) → n ≡ place_in (new ++ behind) x)
added_number (Ok n) old new x h e is = λ behind. is ∙ number_new old behind x h ∙ sym (ap (λ l. place_in (l ++ behind) x) e)
added_number (Err d) old new x h e is = tt
