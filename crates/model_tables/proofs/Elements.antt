-- The elements of a list of variables.
use Rattle.std.proofs.Common.{◌≡◌, ℕ, zero, suc, ◌+◌, ◌<◌, ◌≤◌, ◌==◌, ◌-◌, if◌then◌else◌, Bool, true, false, List, [], ◌∷◌, length, map, set, get_or, Option, Some, inl, inr, refl, sym, ap, ap₂, ◌∙◌, arith}
use Rattle.std.proofs.lemmas.Bool.{or_parts, false≢true, cases_lt, eq-eqb}
use Rattle.std.proofs.lemmas.Bool.Decides.{nat_tests}
use Rattle.std.proofs.lemmas.Grind.{common_steps}
use Rattle.std.proofs.lemmas.List.{length-set, length-map}
use Rattle.fol_core.specs.Bound.{IsOnce}
use Rattle.fol_core.specs.Free.{is_in}
use Rattle.model_tables.specs.Digits.{AreDigits, digits_count, digits_number}
use Rattle.model_tables.specs.Variables.{assignment, HasRoom}
use Rattle.model_tables.proofs.Slots.{at_each}
use Rattle.model_tables.proofs.Numbers.{Carries, carries_none, digit, set_digit, carries_up, carries_over, carries_all}

other_there : (x : ℕ) (xs : List ℕ) (i : ℕ) → is_in x xs ≡ false → i < length xs → (x == get_or xs i 0) ≡ false
other_there x [] i h l = absurd (omega arith)
other_there x (y ∷ ys) zero h l = (or_parts (x == y) (is_in x ys) h).0
other_there x (y ∷ ys) (suc i) h l = other_there x ys i (or_parts (x == y) (is_in x ys) h).1 (omega arith)

pub turned : (x y : ℕ) → (x == y) ≡ false → (y == x) ≡ false
turned x y h = grind (arith, nat_tests)

stays : (slots : List (Option ℕ)) (x y v : ℕ) → x < length slots → (y == x) ≡ false → assignment (set slots x (Some v)) y ≡ assignment slots y
stays slots x y v l h = at_each slots x v l y ∙ ap (λ b. if b then v else assignment slots y) h

gets : (slots : List (Option ℕ)) (x v : ℕ) → x < length slots → assignment (set slots x (Some v)) x ≡ v
gets slots x v l = grind (arith, common_steps, nat_tests)

others : (slots : List (Option ℕ)) (x v : ℕ) (ys : List ℕ) → x < length slots → is_in x ys ≡ false → map (assignment (set slots x (Some v))) ys ≡ map (assignment slots) ys
others slots x v [] l h = refl
others slots x v (y ∷ ys) l h =
    let parts = or_parts (x == y) (is_in x ys) h in
    ap₂ (λ d ds. d ∷ ds) (stays slots x y v l (turned x y parts.0)) (others slots x v ys l parts.1)

pub there : (xs : List ℕ) (slots : List (Option ℕ)) (i : ℕ) → HasRoom xs slots → i < length xs → get_or xs i 0 < length slots
there [] slots i h l = absurd (omega arith)
there (x ∷ xs) slots zero h l = h.0
there (x ∷ xs) slots (suc i) h l = there xs slots i h.1 (omega arith)

-- the elements after one is set
pub elements_set : (xs : List ℕ) (slots : List (Option ℕ)) (i v : ℕ) → IsOnce xs → HasRoom xs slots → i < length xs
    → map (assignment (set slots (get_or xs i 0) (Some v))) xs ≡ set (map (assignment slots) xs) i v
elements_set [] slots i v a h l = absurd (omega arith)
elements_set (x ∷ xs) slots zero v a h l = ap₂ (λ d ds. d ∷ ds) (gets slots x v h.0) (others slots x v xs h.0 a.0)
elements_set (x ∷ xs) slots (suc i) v a h l =
    let less : i < length xs = omega arith in
    ap₂ (λ d ds. d ∷ ds) (stays slots (get_or xs i 0) x v (there xs slots i h.1 less) (other_there x xs i a.0 less)) (elements_set xs slots i v a.1 h.1 less)

pub same_room : (xs : List ℕ) (a b : List (Option ℕ)) → length a ≡ length b → HasRoom xs b → HasRoom xs a
same_room [] a b e h = tt
same_room (x ∷ xs) a b e h = (omega (arith, h.0), same_room xs a b e h.1)

same_for_all : (size : ℕ) (xs : List ℕ) (i : ℕ) → i < length xs → get_or (map (λ x. size) xs) i 0 ≡ size
same_for_all size [] i l = absurd (omega arith)
same_for_all size (x ∷ xs) zero l = refl
same_for_all size (x ∷ xs) (suc i) l = same_for_all size xs i (omega arith)

element_at : (slots : List (Option ℕ)) (xs : List ℕ) (i : ℕ) → i < length xs → get_or (map (assignment slots) xs) i 0 ≡ assignment slots (get_or xs i 0)
element_at slots [] i l = absurd (omega arith)
element_at slots (x ∷ xs) zero l = refl
element_at slots (x ∷ xs) (suc i) l = element_at slots xs i (omega arith)

-- the room stays, and the elements from `at` on have run through
pub record Steps (size : ℕ) (xs : List ℕ) (before now : List (Option ℕ)) (at : ℕ) : Type 0 where
  pub room : length now ≡ length before
  pub carries : Carries (map (λ x. size) xs) (map (assignment before) xs) (map (assignment now) xs) at

module _ (size : ℕ) (xs : List ℕ) (before now : List (Option ℕ)) (at : ℕ) (room : HasRoom xs before) (s : Steps size xs before now at) (more : 0 < at) where
  inside : at - 1 < length xs
  inside = omega (arith, s.carries.within, length-map xs (assignment now))

  pub room_now : get_or xs (at - 1) 0 < length now
  room_now = there xs now (at - 1) (same_room xs now before s.room room) inside

  digit_there : get_or (map (assignment now) xs) (at - 1) 0 ≡ assignment now (get_or xs (at - 1) 0)
  digit_there = element_at now xs (at - 1) inside

  bound_there : get_or (map (λ x. size) xs) (at - 1) 0 ≡ size
  bound_there = same_for_all size xs (at - 1) inside

  pub element_below : assignment now (get_or xs (at - 1) 0) < size
  element_below = omega (arith, digit (map (λ x. size) xs) (map (assignment before) xs) (map (assignment now) xs) at s.carries more, digit_there, bound_there)

  module _ (apart : IsOnce xs) where
    after : (v : ℕ) → map (assignment (set now (get_or xs (at - 1) 0) (Some v))) xs ≡ set (map (assignment now) xs) (at - 1) v
    after v = elements_set xs now (at - 1) v apart (same_room xs now before s.room room) inside

    pub set_there : (v : ℕ) → v < size → AreDigits (map (λ x. size) xs) (map (assignment (set now (get_or xs (at - 1) 0) (Some v))) xs)
    set_there v l = rw (after v) (set_digit (map (λ x. size) xs) (map (assignment now) xs) (at - 1) v s.carries.digits (rw bound_there l))

    pub steps_up : digits_number (map (λ x. size) xs) (map (assignment (set now (get_or xs (at - 1) 0) (Some (assignment now (get_or xs (at - 1) 0) + 1)))) xs)
        ≡ digits_number (map (λ x. size) xs) (map (assignment before) xs) + 1
    steps_up = rw (after (assignment now (get_or xs (at - 1) 0) + 1), ← digit_there) (carries_up (map (λ x. size) xs) (map (assignment before) xs) (map (assignment now) xs) at s.carries more)

    pub steps_over : size ≤ assignment now (get_or xs (at - 1) 0) + 1 → Steps size xs before (set now (get_or xs (at - 1) 0) (Some 0)) (at - 1)
    steps_over over = record {
      room = length-set now (get_or xs (at - 1) 0) (Some 0) ∙ s.room;
      carries = rw (after 0) (carries_over (map (λ x. size) xs) (map (assignment before) xs) (map (assignment now) xs) at s.carries more (omega (arith, digit_there, bound_there)));
    }

pub steps_none : (size : ℕ) (xs : List ℕ) (slots : List (Option ℕ)) → AreDigits (map (λ x. size) xs) (map (assignment slots) xs) → Steps size xs slots slots (length xs)
steps_none size xs slots h = record { room = refl; carries = rw (← length-map xs (assignment slots)) (carries_none (map (λ x. size) xs) (map (assignment slots) xs) h) }

pub steps_all : (size : ℕ) (xs : List ℕ) (before now : List (Option ℕ)) (at : ℕ) → Steps size xs before now at → at ≤ 0 → AreDigits (map (λ x. size) xs) (map (assignment before) xs)
    → digits_count (map (λ x. size) xs) ≡ digits_number (map (λ x. size) xs) (map (assignment before) xs) + 1
steps_all size xs before now at s l d = (carries_all (map (λ x. size) xs) (map (assignment before) xs) (map (assignment now) xs) at s.carries l d).0

-- elements that are 0 one by one
pub zero_each : (a : ℕ → ℕ) (xs : List ℕ) → ((k : ℕ) → k < length xs → a (get_or xs k 0) ≡ 0) → map a xs ≡ map (λ x. 0) xs
zero_each a [] h = refl
zero_each a (x ∷ xs) h = ap₂ (λ d ds. d ∷ ds) (h 0 (omega arith)) (zero_each a xs (λ k l. h (suc k) (omega arith)))

pub zero_more : (xs : List ℕ) (slots : List (Option ℕ)) (i : ℕ) → get_or xs i 0 < length slots → ((k : ℕ) → k < i → assignment slots (get_or xs k 0) ≡ 0)
    → (k : ℕ) → k < i + 1 → assignment (set slots (get_or xs i 0) (Some 0)) (get_or xs k 0) ≡ 0
zero_more xs slots i l h k less = at_each slots (get_or xs i 0) 0 l (get_or xs k 0) ∙ by (get_or xs k 0 == get_or xs i 0) refl
  where
    by : (b : Bool) → (get_or xs k 0 == get_or xs i 0) ≡ b → (if b then 0 else assignment slots (get_or xs k 0)) ≡ 0
    by true e = refl
    by false e = elim (cases_lt k i) [ inl before ↦ h k before | inr same ↦ let is : k ≡ i = omega arith in absurd (false≢true (sym e ∙ ap (λ n. get_or xs n 0 == get_or xs i 0) is ∙ eq-eqb (get_or xs i 0) (get_or xs i 0) refl)) ]
