-- Clauses that have one of several numbers.
use Rattle.std.proofs.Common.{◌≡◌, ◌⊎◌, inl, inr, ℕ, suc, ◌+◌, ◌<◌, ◌==◌, nat_lt, Bool, true, false, ◌||◌, if◌then◌else◌, List, [], ◌∷◌, ◌++◌, Some, None, length, get_or, filter, flat_map, take, refl, sym, ap, ap₂, ◌∙◌, ltb-true, ltb-false, eq-eqb, ne_eqb, arith}
use Rattle.std.specs.Borrow.{Bor}
use Rattle.std.specs.List.{AllByRecursion, AllPairs, Contains, filter_map, cons_option, list_any}
use Rattle.std.specs.List.Sorted.{IsStrictlyIncreasing}
use Rattle.std.proofs.lemmas.Bool.{false≢true}
use Rattle.std.proofs.lemmas.List.{take_more}
use Rattle.std.proofs.lemmas.List.Folds.{Any-from_list_any, list_any-from_Any, list_any-append}
use Rattle.std.proofs.lemmas.List.Kept.{AllPairs-from_increasing}
use Rattle.clause_index.specs.Numbered.{is_numbered}
use Rattle.clause_index.specs.Places.{with_number}
use Rattle.held_clauses.specs.Holding.{lent}
use Rattle.prover_steps.proofs.Rising.{above_none, above_lower}
use Rattle.prover_steps.specs.Clashing.{Held}
use Rattle.prover_steps.specs.HeldOrder.{numbers_of, IsNoneOf, IsRising}

-- numbers in order
above_from : (x : ℕ) (xs : List ℕ) → ((j d : ℕ) → j < length xs → x < get_or xs j d) → AllByRecursion (λ y. x < y) xs
above_from x [] h = tt
above_from x (y ∷ ys) h = (h 0 0 (omega arith), above_from x ys (λ j d lt. h (suc j) d (omega (arith, lt))))

rises_from : (xs : List ℕ) → AllPairs (λ x y. x < y) xs → IsRising xs
rises_from [] h = tt
rises_from (x ∷ xs) h = (above_from x xs (λ j d lt. h 0 (suc j) d (omega arith) (omega (arith, lt))), rises_from xs (λ i j d lt le. h (suc i) (suc j) d (omega (arith, lt)) (omega (arith, le))))

pub increasing_rises : (xs : List ℕ) → IsStrictlyIncreasing xs → IsRising xs
increasing_rises xs h = rises_from xs (AllPairs-from_increasing xs h)

-- the same numbers, in whatever order and however often
some_too : {X : Type 0} (test : X → Bool) (xs ys : List X) → ((x : X) → Contains xs x → Contains ys x) → list_any test xs ≡ true → list_any test ys ≡ true
some_too test xs ys into h =
    let at = Any-from_list_any test xs h in
    let there = into at.1 (at.0, at.2, at.3) in
    list_any-from_Any test ys (there.0, at.1, there.1, there.2, at.4)

pub same_some : {X : Type 0} (test : X → Bool) (xs ys : List X) → ((x : X) → Contains xs x → Contains ys x) → ((x : X) → Contains ys x → Contains xs x) → list_any test xs ≡ list_any test ys
same_some test xs ys into back = by (list_any test xs) refl (list_any test ys) refl
  where
    by : (b : Bool) → list_any test xs ≡ b → (d : Bool) → list_any test ys ≡ d → list_any test xs ≡ list_any test ys
    by true e d f = e ∙ sym (some_too test xs ys into e)
    by false e true f = absurd (false≢true (sym e ∙ some_too test ys xs back f))
    by false e false f = e ∙ sym f

-- numbers that no clause has
none_with : (n : ℕ) (hs : List Held) → IsNoneOf n (numbers_of hs) → with_number n hs ≡ None
none_with n [] none = refl
none_with n (h ∷ hs) none = ap (λ b. if b then Some h else with_number n hs) (ne_eqb h.number n (λ same. none.0 (sym same))) ∙ none_with n hs none.1

less_by_one : (n : ℕ) (ns : List ℕ) (hs : List Held) → IsNoneOf n (numbers_of hs) → filter (is_numbered (n ∷ ns)) hs ≡ filter (is_numbered ns) hs
less_by_one n ns [] none = refl
less_by_one n ns (h ∷ hs) none =
    ap₂ (λ (b : Bool) (ks : List Held). if b || is_numbered ns h then h ∷ ks else ks) (ne_eqb h.number n (λ same. none.0 (sym same))) (less_by_one n ns hs none.1)

none_numbered : (hs : List Held) → filter (is_numbered []) hs ≡ []
none_numbered [] = refl
none_numbered (h ∷ hs) = none_numbered hs

none_there : (ns : List ℕ) → filter_map (λ n. with_number n []) ns ≡ []
none_there [] = refl
none_there (n ∷ ns) = none_there ns

-- the first clause has none of the numbers above it
behind_first : (h : Held) (hs : List Held) (ns : List ℕ) → AllByRecursion (λ n. h.number < n) ns → filter_map (λ n. with_number n (h ∷ hs)) ns ≡ filter_map (λ n. with_number n hs) ns
behind_first h hs [] above = refl
behind_first h hs (n ∷ ns) above =
    let more = above.0 in
    ap₂ (λ o ks. cons_option o ks) (ap (λ b. if b then Some h else with_number n hs) (ne_eqb h.number n (λ same. omega (arith, more, same)))) (behind_first h hs ns above.1)

not_above : (h : Held) (ns : List ℕ) → AllByRecursion (λ n. h.number < n) ns → is_numbered ns h ≡ false
not_above h [] above = refl
not_above h (n ∷ ns) above =
    let more = above.0 in
    ap₂ (λ (b d : Bool). b || d) (ne_eqb h.number n (λ same. omega (arith, more, same))) (not_above h ns above.1)

-- numbers that rise: the clauses with them are those that have one of them
numbered_in : (hs : List Held) → IsRising (numbers_of hs) → (ns : List ℕ) → IsRising ns → filter_map (λ n. with_number n hs) ns ≡ filter (is_numbered ns) hs
numbered_in [] rising ns rise = none_there ns
numbered_in (h ∷ hs) rising ns rise = each ns rise (numbered_in hs rising.1)
  where
    each : (ns : List ℕ) → IsRising ns → ((ms : List ℕ) → IsRising ms → filter_map (λ n. with_number n hs) ms ≡ filter (is_numbered ms) hs)
        → filter_map (λ n. with_number n (h ∷ hs)) ns ≡ filter (is_numbered ns) (h ∷ hs)
    each [] rise behind = sym (none_numbered (h ∷ hs))
    each (n ∷ ns) rise behind = by (nat_lt n h.number) refl (nat_lt h.number n) refl (each ns rise.1 behind)
      where
        by : (b : Bool) → nat_lt n h.number ≡ b → (d : Bool) → nat_lt h.number n ≡ d → filter_map (λ n. with_number n (h ∷ hs)) ns ≡ filter (is_numbered ns) (h ∷ hs)
            → filter_map (λ n. with_number n (h ∷ hs)) (n ∷ ns) ≡ filter (is_numbered (n ∷ ns)) (h ∷ hs)
        by true e d f rest =
            let less = ltb-true n h.number e in
            let none = above_none n (numbers_of (h ∷ hs)) (less, above_lower n h.number (numbers_of hs) (omega (arith, less)) rising.0) in
            ap₂ (λ o ks. cons_option o ks) (none_with n (h ∷ hs) none) rest ∙ sym (less_by_one n ns (h ∷ hs) none)
        by false e true f rest =
            let less = ltb-true h.number n f in
            let above : AllByRecursion (λ m. h.number < m) (n ∷ ns) = (less, above_lower h.number n ns (omega (arith, less)) rise.0) in
            behind_first h hs (n ∷ ns) above ∙ behind (n ∷ ns) rise
            ∙ sym (ap (λ b. if b then h ∷ filter (is_numbered (n ∷ ns)) hs else filter (is_numbered (n ∷ ns)) hs) (not_above h (n ∷ ns) above))
        by false e false f rest =
            let least = ltb-false n h.number e in
            let most = ltb-false h.number n f in
            let same : h.number ≡ n = omega (arith, least, most) in
            let there : (h.number == n) ≡ true = eq-eqb h.number n same in
            let above : AllByRecursion (λ m. h.number < m) ns = above_lower h.number n ns (omega (arith, same)) rise.0 in
            let over : AllByRecursion (λ m. n < m) (numbers_of hs) = above_lower n h.number (numbers_of hs) (omega (arith, same)) rising.0 in
            ap₂ (λ o ks. cons_option o ks) (ap (λ b. if b then Some h else with_number n hs) there) (behind_first h hs ns above ∙ behind ns rise.1 ∙ sym (less_by_one n ns hs (above_none n (numbers_of hs) over)))
            ∙ sym (ap (λ (b : Bool). if b || is_numbered ns h then h ∷ filter (is_numbered (n ∷ ns)) hs else filter (is_numbered (n ∷ ns)) hs) there)

same_kept : {X : Type 0} (test other : X → Bool) (xs : List X) → ((x : X) → test x ≡ other x) → filter test xs ≡ filter other xs
same_kept test other [] same = refl
same_kept test other (x ∷ xs) same = ap₂ (λ (b : Bool) ys. if b then x ∷ ys else ys) (same x) (same_kept test other xs same)

pub all_found : (ns ms : List ℕ) (hs : List Held) → IsRising ns → IsRising (numbers_of hs) → ((h : Held) → is_numbered ns h ≡ is_numbered ms h) → filter_map (λ n. with_number n hs) ns ≡ filter (is_numbered ms) hs
all_found ns ms hs rise rising same = numbered_in hs rising ns rise ∙ same_kept (is_numbered ns) (is_numbered ms) hs same

-- one number more
pub number_added : (hs : List (Bor Held)) (i : ℕ) (h : Bor Held) (old now new : List ℕ) → i < length hs → h ≡ get_or hs i h → now ≡ old ++ numbers_of (lent (take i hs)) → new ≡ now ++ h.now.number ∷ []
    → new ≡ old ++ numbers_of (lent (take (i + 1) hs))
number_added hs i h old now new within is was more =
    more ∙ ap (λ ns. ns ++ h.now.number ∷ []) was ∙ back
    ∙ ap (λ (ks : List (Bor Held)). old ++ numbers_of (lent ks)) (ap (λ k. take i hs ++ k ∷ []) is ∙ sym (take_more hs i h within))
  where
    back : (old ++ numbers_of (lent (take i hs))) ++ h.now.number ∷ [] ≡ old ++ numbers_of (lent (take i hs ++ h ∷ []))
    back = over old (take i hs)
      where
        over : (ns : List ℕ) (ks : List (Bor Held)) → (ns ++ numbers_of (lent ks)) ++ h.now.number ∷ [] ≡ ns ++ numbers_of (lent (ks ++ h ∷ []))
        over [] [] = refl
        over [] (k ∷ ks) = ap (λ ms. k.now.number ∷ ms) (over [] ks)
        over (n ∷ ns) ks = ap (λ ms. n ∷ ms) (over ns ks)

-- an element of a list
abbrev pub IsAmong : {X : Type 0} → X → List X → Type 0
IsAmong x [] = ⊥
IsAmong x (y ∷ ys) = (x ≡ y) ⊎ IsAmong x ys

-- elements that give nothing are left out
pub left_out : {X A : Type 0} (f : X → List A) (test : X → Bool) (xs : List X) → ((x : X) → IsAmong x xs → test x ≡ false → f x ≡ []) → flat_map f (filter test xs) ≡ flat_map f xs
left_out f test [] none = refl
left_out f test (x ∷ xs) none = by (test x) refl (left_out f test xs (λ y among. none y (inr among)))
  where
    by : (b : Bool) → test x ≡ b → flat_map f (filter test xs) ≡ flat_map f xs → flat_map f (if b then x ∷ filter test xs else filter test xs) ≡ f x ++ flat_map f xs
    by true e rest = ap (λ ys. f x ++ ys) rest
    by false e rest = rest ∙ sym (ap (λ ys. ys ++ flat_map f xs) (none x (inl refl) e))

-- a clause that passes a test has one of the numbers of those that do
pub either_false : (p q : Bool) → p || q ≡ false → (p ≡ false) × (q ≡ false)
either_false true q h = cc
either_false false q h = (refl, h)

pub fails_too : (test : Held → Bool) (h : Held) (hs : List Held) → IsAmong h hs → is_numbered (numbers_of (filter test hs)) h ≡ false → test h ≡ false
fails_too test h (k ∷ hs) among none = by (test k) refl (λ behind out. fails_too test h hs behind out) among none
  where
    by : (b : Bool) → test k ≡ b → (IsAmong h hs → is_numbered (numbers_of (filter test hs)) h ≡ false → test h ≡ false)
        → IsAmong h (k ∷ hs) → is_numbered (numbers_of (if b then k ∷ filter test hs else filter test hs)) h ≡ false → test h ≡ false
    by true e rest (inl same) none =
        absurd (false≢true (sym (either_false (h.number == k.number) (is_numbered (numbers_of (filter test hs)) h) none).0 ∙ eq-eqb h.number k.number (ap (λ (x : Held). x.number) same)))
    by true e rest (inr behind) none = rest behind (either_false (h.number == k.number) (is_numbered (numbers_of (filter test hs)) h) none).1
    by false e rest (inl same) none = ap test same ∙ e
    by false e rest (inr behind) none = rest behind none
fails_too test h [] among none = absurd among

-- of several numbers, those of each
pub each_numbered : {X : Type 0} (f : X → List ℕ) (h : Held) (xs : List X) → is_numbered (flat_map f xs) h ≡ list_any (λ x. is_numbered (f x) h) xs
each_numbered f h [] = refl
each_numbered f h (x ∷ xs) = list_any-append (λ n. h.number == n) (f x) (flat_map f xs) ∙ ap (λ b. is_numbered (f x) h || b) (each_numbered f h xs)

pub fail_each : {X : Type 0} (test other : X → Bool) (xs : List X) → ((x : X) → other x ≡ false → test x ≡ false) → list_any other xs ≡ false → list_any test xs ≡ false
fail_each test other [] less none = refl
fail_each test other (x ∷ xs) less none =
    let parts = either_false (other x) (list_any other xs) none in
    ap₂ (λ (b d : Bool). b || d) (less x parts.0) (fail_each test other xs less parts.1)
