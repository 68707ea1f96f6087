-- Clauses by numbers among which none is left out of those that pass a test.
use Rattle.std.proofs.Common.{◌≡◌, ℕ, suc, ◌<◌, ◌≤◌, ◌⊎◌, Bool, true, false, IsTrue, if◌then◌else◌, inl, inr, refl, sym, ap, ap₂, ◌∙◌, List, [], ◌∷◌, Some, None, length, get_or, filter, eq-eqb, ne_eqb, arith}
use Rattle.std.specs.List.{AllByRecursion, AllPairs, Contains, filter_map, cons_option}
use Rattle.std.specs.List.Sorted.{IsStrictlyIncreasing}
use Rattle.std.proofs.lemmas.Bool.{cases_lt, cases_eq}
use Rattle.std.proofs.lemmas.List.Kept.{AllPairs-from_increasing}
use Rattle.clause_index.specs.Places.{with_number}
use Rattle.clause_index.proofs.Gathering.{behind_first}
use Rattle.discrim_tree.specs.Nodes.{IsIn}
use Rattle.discrim_tree.proofs.Ordered.{in_contains}
use Rattle.prover_steps.specs.Clashing.{Held}
use Rattle.prover_steps.specs.HeldOrder.{numbers_of, IsRising}

above_from : (x : ℕ) (xs : List ℕ) → ((j d : ℕ) → j < length xs → x < get_or xs j d) → AllByRecursion (λ m. x < m) xs
above_from x [] h = tt
above_from x (y ∷ ys) h = (h 0 0 (omega arith), above_from x ys (λ j d lt. h (suc j) d (omega (arith, lt))))

rising_from : (xs : List ℕ) → AllPairs (λ x y. x < y) xs → IsRising xs
rising_from [] h = tt
rising_from (x ∷ xs) h = (above_from x xs (λ j d lt. h 0 (suc j) d (omega arith) (omega (arith, lt))), rising_from xs (λ i j d lt le. h (suc i) (suc j) d (omega (arith, lt)) (omega (arith, le))))

none_below : (n : ℕ) (hs : List Held) → AllByRecursion (λ m. n < m) (numbers_of hs) → with_number n hs ≡ None
none_below n [] above = refl
none_below n (h ∷ hs) above = let more = above.0 in ap (λ b. if b then Some h else with_number n hs) (ne_eqb h.number n (λ same. omega (arith, more, same))) ∙ none_below n hs above.1

none_of_none : (ns : List ℕ) → filter_map (λ n. with_number n []) ns ≡ []
none_of_none [] = refl
none_of_none (n ∷ ns) = none_of_none ns

above_more : (n m : ℕ) (ks : List ℕ) → n < m → AllByRecursion (λ k. m < k) ks → AllByRecursion (λ k. n < k) ks
above_more n m [] lt above = tt
above_more n m (k ∷ ks) lt above = let more = above.0 in (omega (arith, lt, more), above_more n m ks lt above.1)

not_in_above : (n : ℕ) (ms : List ℕ) → AllByRecursion (λ m. n < m) ms → IsIn n ms → ⊥
not_in_above n [] above i = i
not_in_above n (m ∷ ms) above (inl e) = let more = above.0 in omega (arith, e, more)
not_in_above n (m ∷ ms) above (inr i) = not_in_above n ms above.1 i

module _ (test : Held → Bool) where
  abbrev chosen : List ℕ → List Held → List Held
  chosen ns hs = filter test (filter_map (λ n. with_number n hs) ns)

  -- the numbers of those that pass are there
  abbrev pub AreCovered : List ℕ → List Held → Type 0
  AreCovered ns hs = AllByRecursion (λ h. IsTrue (test h) → IsIn h.number ns) hs

  nothing_passes : (hs : List Held) → AreCovered [] hs → filter test hs ≡ []
  nothing_passes [] cover = refl
  nothing_passes (h ∷ hs) cover = by (test h) refl (nothing_passes hs cover.1)
    where
      by : (b : Bool) → test h ≡ b → filter test hs ≡ [] → (if b then h ∷ filter test hs else filter test hs) ≡ []
      by true e rest = absurd (cover.0 e)
      by false e rest = rest

  uncovered : (n : ℕ) (ns : List ℕ) (hs : List Held) → AllByRecursion (λ m. n < m) (numbers_of hs) → AreCovered (n ∷ ns) hs → AreCovered ns hs
  uncovered n ns [] above cover = tt
  uncovered n ns (h ∷ hs) above cover = ((λ pass. by (cover.0 pass)), uncovered n ns hs above.1 cover.1)
    where
      by : (h.number ≡ n) ⊎ IsIn h.number ns → IsIn h.number ns
      by (inl e) = let more = above.0 in absurd (omega (arith, e, more))
      by (inr i) = i

  module _ (h : Held) (hs : List Held) (rising : IsRising (numbers_of (h ∷ hs))) (rest : (ns : List ℕ) → IsRising ns → AreCovered ns hs → chosen ns hs ≡ filter test hs) where
    -- a number below them all
    lower : (n : ℕ) (ns : List ℕ) → n < h.number → chosen (n ∷ ns) (h ∷ hs) ≡ chosen ns (h ∷ hs)
    lower n ns lt = ap (λ o. filter test (cons_option o (filter_map (λ m. with_number m (h ∷ hs)) ns))) (none_below n (h ∷ hs) (lt, above_more n h.number (numbers_of hs) lt rising.0))

    -- the number of the first
    here : (n : ℕ) (ns : List ℕ) → IsRising (n ∷ ns) → n ≡ h.number → AreCovered (n ∷ ns) (h ∷ hs) → chosen (n ∷ ns) (h ∷ hs) ≡ filter test (h ∷ hs)
    here n ns up same cover =
        ap₂ (λ o ks. filter test (cons_option o ks)) (ap (λ b. if b then Some h else with_number n hs) (eq-eqb h.number n (sym same)))
        (behind_first h hs ns (above_same ns up.0))
        ∙ ap (λ ks. if test h then h ∷ ks else ks) (rest ns up.1 (uncovered n ns hs (above_hs hs rising.0) cover.1))
      where
        above_same : (ms : List ℕ) → AllByRecursion (λ m. n < m) ms → AllByRecursion (λ m. h.number < m) ms
        above_same [] above = tt
        above_same (m ∷ ms) above = let more = above.0 in (omega (arith, same, more), above_same ms above.1)

        above_hs : (ks : List Held) → AllByRecursion (λ m. h.number < m) (numbers_of ks) → AllByRecursion (λ m. n < m) (numbers_of ks)
        above_hs [] above = tt
        above_hs (k ∷ ks) above = let more = above.0 in (omega (arith, same, more), above_hs ks above.1)

    -- all numbers above that of the first
    higher : (n : ℕ) (ns : List ℕ) → IsRising (n ∷ ns) → h.number < n → AreCovered (n ∷ ns) (h ∷ hs) → chosen (n ∷ ns) (h ∷ hs) ≡ filter test (h ∷ hs)
    higher n ns up lt cover =
        ap (filter test) (behind_first h hs (n ∷ ns) all_above) ∙ rest (n ∷ ns) up cover.1 ∙ by (test h) refl
      where
        all_above : AllByRecursion (λ m. h.number < m) (n ∷ ns)
        all_above = (lt, above_more h.number n ns lt up.0)

        by : (b : Bool) → test h ≡ b → filter test hs ≡ (if b then h ∷ filter test hs else filter test hs)
        by true e = absurd (not_in_above h.number (n ∷ ns) all_above (cover.0 e))
        by false e = refl

    from_first : (ns : List ℕ) → IsRising ns → AreCovered ns (h ∷ hs) → chosen ns (h ∷ hs) ≡ filter test (h ∷ hs)
    from_first [] up cover = sym (nothing_passes (h ∷ hs) cover)
    from_first (n ∷ ns) up cover = by (from_first ns up.1) (cases_lt n h.number) (cases_eq n h.number)
      where
        by : (AreCovered ns (h ∷ hs) → chosen ns (h ∷ hs) ≡ filter test (h ∷ hs)) → (n < h.number) ⊎ (h.number ≤ n) → (n ≡ h.number) ⊎ (n ≡ h.number → ⊥) → chosen (n ∷ ns) (h ∷ hs) ≡ filter test (h ∷ hs)
        by next (inl lt) other = lower n ns lt ∙ next (uncovered n ns (h ∷ hs) (lt, above_more n h.number (numbers_of hs) lt rising.0) cover)
        by next (inr le) (inl same) = here n ns up same cover
        by next (inr le) (inr apart) = higher n ns up (omega (arith, le, apart)) cover

  covered_found : (hs : List Held) → IsRising (numbers_of hs) → (ns : List ℕ) → IsRising ns → AreCovered ns hs → chosen ns hs ≡ filter test hs
  covered_found [] rising ns up cover = ap (filter test) (none_of_none ns)
  covered_found (h ∷ hs) rising ns up cover = from_first h hs rising (covered_found hs rising.1) ns up cover

  covered : (ns : List ℕ) (hs : List Held) → AllByRecursion (λ h. IsTrue (test h) → Contains ns h.number) hs → AreCovered ns hs
  covered ns [] all = tt
  covered ns (h ∷ hs) all = ((λ pass. in_contains h.number ns (all.0 pass)), covered ns hs all.1)

  pub none_left_out : (hs : List Held) (ns : List ℕ) → IsRising (numbers_of hs) → IsStrictlyIncreasing ns → AllByRecursion (λ h. IsTrue (test h) → Contains ns h.number) hs
      → filter test (filter_map (λ n. with_number n hs) ns) ≡ filter test hs
  none_left_out hs ns rising up all = covered_found hs rising ns (rising_from ns (AllPairs-from_increasing ns up)) (covered ns hs all)
