-- The entries of clauses, as clauses come and go.
use Rattle.std.proofs.Common.{◌≡◌, ℕ, ◌<◌, ◌≤◌, ◌==◌, Bool, true, false, not, ◌&&◌, ◌||◌, nat_lt, if◌then◌else◌, List, [], ◌∷◌, ◌++◌, Some, None, slice_get, map, filter, refl, sym, ap, ap₂, ◌∙◌, subst, ltb-true, ltb-false, lt-ltb, le-ltb, eq-eqb, ne_eqb, arith}
use Rattle.std.specs.List.{AllByRecursion, find}
use Rattle.clause_index.specs.Entries.{entries_of}
use Rattle.clause_index.specs.Places.{with_number}
use Rattle.discrim_tree.specs.Entries.{Indexed, indexed, HaveNumbersAbove, has_number, with_entry, without_entry, numbers_found}
use Rattle.fol_core.specs.Tree.{Tree}
use Rattle.prover_steps.specs.Clashing.{Held}
use Rattle.prover_steps.specs.HeldOrder.{numbers_of, IsNoneOf, IsRising}
use Rattle.prover_steps.specs.Searching.{put_in}

module _ (among : Held → Bool) (key : Held → Tree) where
  abbrev entry : Held → Indexed
  entry h = indexed h.number (key h)

  abbrev entries : List Held → List Indexed
  entries hs = entries_of among key hs

  -- entries have the numbers of their clauses
  above : (n : ℕ) (hs : List Held) → AllByRecursion (λ m. n < m) (numbers_of hs) → HaveNumbersAbove n (entries hs)
  above n [] all = tt
  above n (h ∷ hs) all = by (among h) (above n hs all.1)
    where
      by : (b : Bool) → HaveNumbersAbove n (entries hs) → HaveNumbersAbove n (map entry (if b then h ∷ filter among hs else filter among hs))
      by true rest = (all.0, rest)
      by false rest = rest

  pub none_entered : (n : ℕ) (hs : List Held) → IsNoneOf n (numbers_of hs) → has_number n (entries hs) ≡ false
  none_entered n [] none = refl
  none_entered n (h ∷ hs) none = by (among h) (none_entered n hs none.1)
    where
      by : (b : Bool) → has_number n (entries hs) ≡ false → has_number n (map entry (if b then h ∷ filter among hs else filter among hs)) ≡ false
      by true rest = ap (λ c. c || has_number n (entries hs)) (ne_eqb h.number n (λ same. none.0 (sym same))) ∙ rest
      by false rest = rest

  -- a clause that isn't one of those gives none
  pub passed_over : (h : Held) (hs : List Held) → among h ≡ false → entries (put_in h hs) ≡ entries hs
  passed_over h [] e = ap (λ b. map entry (if b then h ∷ [] else [])) e
  passed_over h (k ∷ hs) e = by (nat_lt h.number k.number) (passed_over h hs e)
    where
      front : (b : Bool) → entries (put_in h hs) ≡ entries hs → map entry (if b then k ∷ filter among (put_in h hs) else filter among (put_in h hs)) ≡ map entry (if b then k ∷ filter among hs else filter among hs)
      front true rest = ap (λ es. entry k ∷ es) rest
      front false rest = rest

      by : (b : Bool) → entries (put_in h hs) ≡ entries hs → entries (if b then h ∷ k ∷ hs else k ∷ put_in h hs) ≡ entries (k ∷ hs)
      by true rest = ap (λ b. map entry (if b then h ∷ filter among (k ∷ hs) else filter among (k ∷ hs))) e
      by false rest = front (among k) rest

  -- one of those gives one at its place
  abbrev lower : ℕ → List Indexed → List Indexed
  lower n es = filter (λ d. nat_lt d.number n) es

  abbrev higher : ℕ → List Indexed → List Indexed
  higher n es = filter (λ d. nat_lt n d.number) es

  none_lower : (n : ℕ) (es : List Indexed) → HaveNumbersAbove n es → lower n es ≡ []
  none_lower n [] h = refl
  none_lower n (e ∷ es) h = ap (λ b. if b then e ∷ lower n es else lower n es) (le-ltb e.number n (omega (arith, h.0))) ∙ none_lower n es h.1

  all_higher : (n : ℕ) (es : List Indexed) → HaveNumbersAbove n es → higher n es ≡ es
  all_higher n [] h = refl
  all_higher n (e ∷ es) h = ap (λ b. if b then e ∷ higher n es else higher n es) (lt-ltb n e.number h.0) ∙ ap (λ ds. e ∷ ds) (all_higher n es h.1)

  at_front : (e : Indexed) (es : List Indexed) → HaveNumbersAbove e.number es → with_entry e es ≡ e ∷ es
  at_front e es h = ap₂ (λ ds cs. ds ++ e ∷ cs) (none_lower e.number es h) (all_higher e.number es h)

  behind_first : (e d : Indexed) (es : List Indexed) → d.number < e.number → with_entry e (d ∷ es) ≡ d ∷ with_entry e es
  behind_first e d es h =
      ap₂ (λ b c. (if b then d ∷ lower e.number es else lower e.number es) ++ e ∷ (if c then d ∷ higher e.number es else higher e.number es))
      (lt-ltb d.number e.number h) (le-ltb e.number d.number (omega (arith, h)))

  still_above : (n m : ℕ) (hs : List Held) → n ≤ m → AllByRecursion (λ k. m < k) (numbers_of hs) → AllByRecursion (λ k. n < k) (numbers_of hs)
  still_above n m [] h all = tt
  still_above n m (k ∷ hs) h all = let more = all.0 in (omega (arith, h, more), still_above n m hs h all.1)

  pub entered : (h : Held) (hs : List Held) → IsRising (numbers_of hs) → IsNoneOf h.number (numbers_of hs) → among h ≡ true → with_entry (entry h) (entries hs) ≡ entries (put_in h hs)
  entered h [] rising none e = sym (ap (λ b. map entry (if b then h ∷ [] else [])) e)
  entered h (k ∷ hs) rising none e = by (nat_lt h.number k.number) refl (entered h hs rising.1 none.1 e)
    where
      front : (b : Bool) → k.number < h.number → with_entry (entry h) (entries hs) ≡ entries (put_in h hs)
          → with_entry (entry h) (map entry (if b then k ∷ filter among hs else filter among hs)) ≡ map entry (if b then k ∷ filter among (put_in h hs) else filter among (put_in h hs))
      front true less rest = behind_first (entry h) (entry k) (entries hs) less ∙ ap (λ es. entry k ∷ es) rest
      front false less rest = rest

      by : (b : Bool) → nat_lt h.number k.number ≡ b → with_entry (entry h) (entries hs) ≡ entries (put_in h hs) → with_entry (entry h) (entries (k ∷ hs)) ≡ entries (if b then h ∷ k ∷ hs else k ∷ put_in h hs)
      by true less rest =
          let below = ltb-true h.number k.number less in
          at_front (entry h) (entries (k ∷ hs)) (above h.number (k ∷ hs) (below, still_above h.number k.number hs (omega (arith, below)) rising.0))
          ∙ sym (ap (λ b. map entry (if b then h ∷ filter among (k ∷ hs) else filter among (k ∷ hs))) e)
      by false less rest =
          let reaches = ltb-false h.number k.number less in
          let other = none.0 in
          front (among k) (omega (arith, reaches, other)) rest

  -- one that goes takes its entry with it
  pub entries_left : (n : ℕ) (hs : List Held) → without_entry n (entries hs) ≡ entries (filter (λ h. not (h.number == n)) hs)
  entries_left n [] = refl
  entries_left n (h ∷ hs) = by (among h) refl (h.number == n) refl (entries_left n hs)
    where
      rest_of : List Held
      rest_of = filter (λ k. not (k.number == n)) hs

      by : (b : Bool) → among h ≡ b → (c : Bool) → (h.number == n) ≡ c → without_entry n (entries hs) ≡ entries rest_of
          → without_entry n (map entry (if b then h ∷ filter among hs else filter among hs)) ≡ entries (if not (h.number == n) then h ∷ rest_of else rest_of)
      by true e true f rest =
          ap (λ c. if not c then entry h ∷ without_entry n (entries hs) else without_entry n (entries hs)) f ∙ rest
          ∙ sym (ap (λ c. entries (if not c then h ∷ rest_of else rest_of)) f)
      by true e false f rest =
          ap (λ c. if not c then entry h ∷ without_entry n (entries hs) else without_entry n (entries hs)) f ∙ ap (λ es. entry h ∷ es) rest
          ∙ sym (ap (λ c. entries (if not c then h ∷ rest_of else rest_of)) f ∙ ap (λ b. map entry (if b then h ∷ filter among rest_of else filter among rest_of)) e)
      by false e true f rest = rest ∙ sym (ap (λ c. entries (if not c then h ∷ rest_of else rest_of)) f)
      by false e false f rest =
          rest ∙ sym (ap (λ c. entries (if not c then h ∷ rest_of else rest_of)) f ∙ ap (λ b. map entry (if b then h ∷ filter among rest_of else filter among rest_of)) e)

  -- the clauses whose terms pass a test
  pub numbers_are : (test : Tree → Bool) (hs : List Held) → numbers_found test (entries hs) ≡ numbers_of (filter (λ h. among h && test (key h)) hs)
  numbers_are test [] = refl
  numbers_are test (h ∷ hs) = by (among h) (test (key h)) refl (numbers_are test hs)
    where
      passing : List Held
      passing = filter (λ k. among k && test (key k)) hs

      by : (b c : Bool) → test (key h) ≡ c → numbers_found test (entries hs) ≡ numbers_of passing
          → numbers_found test (map entry (if b then h ∷ filter among hs else filter among hs)) ≡ numbers_of (if b && c then h ∷ passing else passing)
      by true true e rest = ap (λ c. map (λ (d : Indexed). d.number) (if c then entry h ∷ filter (λ (d : Indexed). test d.tree) (entries hs) else filter (λ (d : Indexed). test d.tree) (entries hs))) e ∙ ap (λ ns. h.number ∷ ns) rest
      by true false e rest = ap (λ c. map (λ (d : Indexed). d.number) (if c then entry h ∷ filter (λ (d : Indexed). test d.tree) (entries hs) else filter (λ (d : Indexed). test d.tree) (entries hs))) e ∙ rest
      by false true e rest = rest
      by false false e rest = rest

-- the first of the clauses that pass a test, by its number
module _ (test : Held → Bool) where
  pub first_none : (hs : List Held) → slice_get (numbers_of (filter test hs)) 0 ≡ None → find test hs ≡ None
  first_none [] e = refl
  first_none (h ∷ hs) e = by (test h) e (first_none hs)
    where
      by : (b : Bool) → slice_get (numbers_of (if b then h ∷ filter test hs else filter test hs)) 0 ≡ None → (slice_get (numbers_of (filter test hs)) 0 ≡ None → find test hs ≡ None)
          → (if b then Some h else find test hs) ≡ None
      by true f rest = cc
      by false f rest = rest f

  number_above : (n m : ℕ) (hs : List Held) → AllByRecursion (λ k. n < k) (numbers_of hs) → slice_get (numbers_of (filter test hs)) 0 ≡ Some m → n < m
  number_above n m [] all e = cc
  number_above n m (h ∷ hs) all e = by (test h) e (number_above n m hs all.1)
    where
      by : (b : Bool) → slice_get (numbers_of (if b then h ∷ filter test hs else filter test hs)) 0 ≡ Some m → (slice_get (numbers_of (filter test hs)) 0 ≡ Some m → n < m) → n < m
      by true f rest = let same : h.number ≡ m = cc in subst (λ k. n < k) same all.0
      by false f rest = rest f

  pub first_some : (n : ℕ) (hs : List Held) → IsRising (numbers_of hs) → slice_get (numbers_of (filter test hs)) 0 ≡ Some n → with_number n hs ≡ find test hs
  first_some n [] rising e = refl
  first_some n (h ∷ hs) rising e = by (test h) e (first_some n hs rising.1)
    where
      by : (b : Bool) → slice_get (numbers_of (if b then h ∷ filter test hs else filter test hs)) 0 ≡ Some n → (slice_get (numbers_of (filter test hs)) 0 ≡ Some n → with_number n hs ≡ find test hs)
          → with_number n (h ∷ hs) ≡ (if b then Some h else find test hs)
      by true f rest = let same : h.number ≡ n = cc in ap (λ c. if c then Some h else with_number n hs) (eq-eqb h.number n same)
      by false f rest =
          let more = number_above h.number n hs rising.0 f in
          ap (λ c. if c then Some h else with_number n hs) (ne_eqb h.number n (λ same. omega (arith, more, same))) ∙ rest f

-- tests that agree find the same
pub find_same : (p q : Held → Bool) → ((h : Held) → p h ≡ q h) → (hs : List Held) → find p hs ≡ find q hs
find_same p q same [] = refl
find_same p q same (h ∷ hs) = ap₂ (λ b o. if b then Some h else o) (same h) (find_same p q same hs)
