-- Lines are marked until none waits: the marked ones are those that the first one rests on.
use Rattle.std.proofs.Common.{◌≡◌, ℕ, zero, suc, ◌+◌, ◌<◌, ◌≤◌, ◌==◌, ◌||◌, ◌⊎◌, Bool, true, false, inl, inr, refl, sym, ap, ◌∙◌, subst, List, [], ◌∷◌, ◌++◌, length, arith, ap₂, replicate, length-append, eqb-true, eq-eqb}
use Rattle.std.specs.List.{slice_index_or}
use Rattle.std.specs.Option.{option_map_or}
use Rattle.std.proofs.lemmas.List.Folds.{list_any-append}
use Rattle.std.proofs.lemmas.Bool.{cases_eq, cases_lt}
use Rattle.std.proofs.lemmas.List.{length-replicate}
use Rattle.std.proofs.lemmas.Option.{slice_get_past}
use Rattle.fol_core.specs.Free.{is_in}
use Rattle.clause_store.specs.Ancestors.{IsWay, RestsOn}
use Rattle.clause_store.specs.Marks.{line_under_number, has_mark, IsNumberOf, MarkAncestors, VisitsLine, passed_over, marked_now}

-- a number waits at the end of a list, or before it
in_more : (k : ℕ) (xs ys : List ℕ) → is_in k (xs ++ ys) ≡ true → (is_in k xs ≡ true) ⊎ (is_in k ys ≡ true)
in_more k xs ys h = by (is_in k xs) (sym (list_any-append (λ y. k == y) xs ys) ∙ h)
  where
    by : (b : Bool) → (b || is_in k ys) ≡ true → (b ≡ true) ⊎ (is_in k ys ≡ true)
    by true h = inl refl
    by false h = inr h

in_front : (k : ℕ) (xs ys : List ℕ) → is_in k xs ≡ true → is_in k (xs ++ ys) ≡ true
in_front k xs ys h = list_any-append (λ y. k == y) xs ys ∙ ap (λ b. b || is_in k ys) h

in_back : (k : ℕ) (xs ys : List ℕ) → is_in k ys ≡ true → is_in k (xs ++ ys) ≡ true
in_back k xs ys h = list_any-append (λ y. k == y) xs ys ∙ by (is_in k xs)
  where
    by : (b : Bool) → (b || is_in k ys) ≡ true
    by true = refl
    by false = h

in_one : (k m : ℕ) → is_in k (m ∷ []) ≡ true → k ≡ m
in_one k m h = by (k == m) refl h
  where
    by : (b : Bool) → (k == m) ≡ b → (b || false) ≡ true → k ≡ m
    by true e h = eqb-true k m e
    by false e h = cc

-- what has parents is a line
pub has_parents : {L : Type 0} (parents : L → List ℕ) (ls : List L) (m k : ℕ) → is_in k (option_map_or parents (line_under_number ls m) []) ≡ true → IsNumberOf (length ls) m
has_parents parents ls zero k h = cc
has_parents parents ls (suc n) k h = elim (cases_lt n (length ls)) [
  | inl w ↦ (omega arith, omega (arith, w))
  | inr w ↦ absurd (none (ap (λ o. is_in k (option_map_or parents o [])) (sym (slice_get_past ls n w)) ∙ h))
]
  where
    none : false ≡ true → ⊥
    none e = cc

-- how far the marking is
pub record AreOnTheWay (count : ℕ) (parents : ℕ → List ℕ) (n : ℕ) (marks : List Bool) (waiting : List ℕ) : Type 0 where
  pub each : length marks ≡ count
  pub rests : (m : ℕ) → has_mark marks m ≡ true → RestsOn parents n m
  pub waits : (m : ℕ) → is_in m waiting ≡ true → RestsOn parents n m
  pub closed : (m k : ℕ) → has_mark marks m ≡ true → is_in k (parents m) ≡ true
      → IsNumberOf count k → has_mark marks k ≡ false → is_in k waiting ≡ true
  pub first : IsNumberOf count n → has_mark marks n ≡ false → is_in n waiting ≡ true

-- at first nothing is marked, and the first one waits
nothing_marked : (count m : ℕ) → has_mark (replicate count false) m ≡ false
nothing_marked count zero = refl
nothing_marked zero (suc k) = none k
  where
    none : (k : ℕ) → slice_index_or [] k false ≡ false
    none zero = refl
    none (suc k) = refl
nothing_marked (suc count) (suc zero) = refl
nothing_marked (suc count) (suc (suc k)) = nothing_marked count (suc k)

pub way_begins : (count : ℕ) (parents : ℕ → List ℕ) (n : ℕ) → AreOnTheWay count parents n (replicate count false) (n ∷ [])
way_begins count parents n = record {
  each = length-replicate count false;
  rests = λ m h. absurd (apart (nothing_marked count m) h);
  waits = λ m h. ([], sym (in_one m n h));
  closed = λ m k h i j l. absurd (apart (nothing_marked count m) h);
  first = λ i h. ap (λ b. b || false) (eq-eqb n n refl);
}
  where
    apart : {b : Bool} → b ≡ false → b ≡ true → ⊥
    apart e h = cc

-- one more line is looked at
module _ (count : ℕ) (parents : ℕ → List ℕ) (n m : ℕ) (marks : List Bool) (waiting : List ℕ) (others : List Bool) (more : List ℕ) (old : AreOnTheWay count parents n marks (waiting ++ m ∷ [])) where
  passing : (IsNumberOf count m → has_mark marks m ≡ true) → AreOnTheWay count parents n marks waiting
  passing there = record {
    each = old.each;
    rests = old.rests;
    waits = λ k h. old.waits k (in_front k waiting (m ∷ []) h);
    closed = λ j k h i w e. still k w e (old.closed j k h i w e);
    first = λ w e. still n w e (old.first w e);
  }
    where
      still : (k : ℕ) → IsNumberOf count k → has_mark marks k ≡ false → is_in k (waiting ++ m ∷ []) ≡ true → is_in k waiting ≡ true
      still k w e h = elim (in_more k waiting (m ∷ []) h) [
        | inl i ↦ i
        | inr i ↦ absurd (clash (in_one k m i))
      ]
        where
          clash : k ≡ m → ⊥
          clash same = let t = there (subst (λ x. IsNumberOf count x) same w) in let f : has_mark marks m ≡ false = subst (λ x. has_mark marks x ≡ false) same e in cc

  marking : IsNumberOf count m → has_mark marks m ≡ false → length others ≡ length marks → has_mark others m ≡ true → ((k : ℕ) → (k ≡ m → ⊥) → has_mark others k ≡ has_mark marks k)
      → AreOnTheWay count parents n others (waiting ++ parents m)
  marking within unmarked many now same = record {
    each = many ∙ old.each;
    rests = λ k h. elim (cases_eq k m) [ inl e ↦ subst (λ x. RestsOn parents n x) (sym e) reached | inr e ↦ old.rests k (sym (same k e) ∙ h) ];
    waits = λ k h. elim (in_more k waiting (parents m) h) [
      | inl i ↦ old.waits k (in_front k waiting (m ∷ []) i)
      | inr i ↦ (m ∷ reached.0, (reached.1, i))
    ];
    closed = λ j k h i w e. elim (cases_eq j m) [
      | inl d ↦ in_back k waiting (parents m) (subst (λ x. is_in k (parents x) ≡ true) d i)
      | inr d ↦ still k w e (λ f. old.closed j k (sym (same j d) ∙ h) i w f)
    ];
    first = λ w e. still n w e (λ f. old.first w f);
  }
    where
      reached : RestsOn parents n m
      reached = old.waits m (in_back m waiting (m ∷ []) (ap (λ b. b || false) (eq-eqb m m refl)))

      still : (k : ℕ) → IsNumberOf count k → has_mark others k ≡ false → (has_mark marks k ≡ false → is_in k (waiting ++ m ∷ []) ≡ true) → is_in k (waiting ++ parents m) ≡ true
      still k w e h = elim (cases_eq k m) [
        | inl d ↦ absurd (clash d)
        | inr d ↦ elim (in_more k waiting (m ∷ []) (h (sym (same k d) ∙ e))) [
          | inl i ↦ in_front k waiting (parents m) i
          | inr i ↦ absurd (d (in_one k m i))
        ]
      ]
        where
          clash : k ≡ m → ⊥
          clash d = let f : has_mark others m ≡ false = subst (λ x. has_mark others x ≡ false) d e in cc

  pub way_goes_on : VisitsLine count parents m marks waiting others more → AreOnTheWay count parents n others more
  way_goes_on (passed_over there same rest) = subst (λ x. AreOnTheWay count parents n x more) (sym same) (subst (λ x. AreOnTheWay count parents n marks x) (sym rest) (passing there))
  way_goes_on (marked_now within unmarked many now same rest) = subst (λ x. AreOnTheWay count parents n others x) (sym rest) (marking within unmarked many now same)

-- where none waits any more, all are marked, if only lines have parents
pub way_ends : (count : ℕ) (parents : ℕ → List ℕ) (n : ℕ) (marks : List Bool) → ((m k : ℕ) → is_in k (parents m) ≡ true → IsNumberOf count m) → AreOnTheWay count parents n marks [] → MarkAncestors count parents n marks
way_ends count parents n marks lines way = record { each = way.each; rests = way.rests; all = λ m w rests. reach m w rests.0 rests.1 }
  where
    settled : (k : ℕ) → (has_mark marks k ≡ false → false ≡ true) → has_mark marks k ≡ true
    settled k h = by (has_mark marks k) h
      where
        by : (b : Bool) → (b ≡ false → false ≡ true) → b ≡ true
        by true h = refl
        by false h = h refl

    reach : (m : ℕ) → IsNumberOf count m → (ks : List ℕ) → IsWay parents n ks m → has_mark marks m ≡ true
    reach m w [] e = settled m (λ f. way.first (subst (λ x. IsNumberOf count x) (sym e) w) (ap (has_mark marks) e ∙ f))
    reach m w (k ∷ ks) h = settled m (λ f. way.closed k m (reach k (lines k m h.1) ks h.0) h.1 w f)

abbrev pub weight : ℕ → Bool → ℕ
weight w true = 0
weight w false = suc w

-- how many are to be looked at at most: those that wait, those that aren't marked, and the parents of these
module _ (parents : ℕ → List ℕ) (marks : List Bool) where
  abbrev pub left_of_first : ℕ → ℕ
  left_of_first zero = 0
  left_of_first (suc k) = left_of_first k + weight (length (parents (suc k))) (has_mark marks (suc k))

abbrev pub left_to_mark : ℕ → (ℕ → List ℕ) → List Bool → List ℕ → ℕ
left_to_mark count parents marks waiting = left_of_first parents marks count + length waiting

module _ (parents : ℕ → List ℕ) (m : ℕ) (marks others : List Bool) (unmarked : has_mark marks m ≡ false) (now : has_mark others m ≡ true) (same : (k : ℕ) → (k ≡ m → ⊥) → has_mark others k ≡ has_mark marks k) where
  same_before : (count : ℕ) → count < m → left_of_first parents others count ≡ left_of_first parents marks count
  same_before zero h = refl
  same_before (suc k) h = ap₂ (λ a b. a + weight (length (parents (suc k))) b) (same_before k (omega arith)) (same (suc k) (λ e. omega (arith, e)))

  less_behind : (count : ℕ) → m ≤ count → 0 < m → left_of_first parents others count + suc (length (parents m)) ≡ left_of_first parents marks count
  less_behind zero h p = absurd (omega arith)
  less_behind (suc k) h p = elim (cases_eq m (suc k)) [
    | inl e ↦
        let before = same_before k (omega (arith, e)) in
        let one : has_mark others (suc k) ≡ true = subst (λ x. has_mark others x ≡ true) e now in
        let other : has_mark marks (suc k) ≡ false = subst (λ x. has_mark marks x ≡ false) e unmarked in
        let a = ap (weight (length (parents (suc k)))) one in
        let b = ap (weight (length (parents (suc k)))) other in
        let c : length (parents m) ≡ length (parents (suc k)) = ap (λ x. length (parents x)) e in
        omega (arith, before, a, b, c)
    | inr e ↦
        let before = less_behind k (omega (arith, e)) p in
        let a = ap (weight (length (parents (suc k)))) (same (suc k) (λ d. e (sym d))) in
        omega (arith, before, a)
  ]

-- each look leaves less
pub less_is_left : (count : ℕ) (parents : ℕ → List ℕ) (m : ℕ) (marks : List Bool) (waiting : List ℕ) (others : List Bool) (more : List ℕ) → VisitsLine count parents m marks waiting others more
    → left_to_mark count parents others more < left_to_mark count parents marks (waiting ++ m ∷ [])
less_is_left count parents m marks waiting others more (passed_over there same rest) =
    let a = ap (λ x. left_of_first parents x count) same in
    let b = ap length rest in
    omega (arith, a, b, length-append waiting (m ∷ []))
less_is_left count parents m marks waiting others more (marked_now within unmarked many now same rest) =
    let a = less_behind parents m marks others unmarked now same count within.1 within.0 in
    let b = ap length rest in
    omega (arith, a, b, length-append waiting (m ∷ []), length-append waiting (parents m))
