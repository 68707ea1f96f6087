-- A formula at the elements of its variables, one list of elements after the other.
use Rattle.std.proofs.Common.{◌≡◌, ℕ, ◌+◌, ◌<◌, ◌≤◌, IsTrue, List, [], ◌∷◌, length, map, Option, inl, inr, refl, sym, arith}
use Rattle.std.specs.Prelude.{nat_le}
use Rattle.std.proofs.lemmas.Bool.{cases_lt, cases_eq, false≢true}
use Rattle.std.proofs.lemmas.Bool.Decides.{nat_tests}
use Rattle.fol_core.specs.Fol.{Fol}
use Rattle.fol_core.specs.Free.{is_in, free_vars_of, closed_over, closure_of}
use Rattle.fol_core.specs.Truth.{Assignment, IsWithin, Holds}
use Rattle.fol_core.proofs.TruthLemmas.{free_decide, closure_general}
use Rattle.model_tables.specs.Digits.{AreDigits, digits_count, digits_number}
use Rattle.model_tables.specs.Tables.{Finite, meaning_of, element}
use Rattle.model_tables.specs.TablesLaws.{tables_lawful, element_within}
use Rattle.model_tables.specs.Variables.{room_of, HasRoom}
use Rattle.model_tables.proofs.Numbers.{number_below, number_same}

-- what has room for a closure has it for the variables and the formula
pub closed_room : (xs : List ℕ) (f : Fol) (slots : List (Option ℕ)) → room_of (closed_over xs f) ≤ length slots → HasRoom xs slots
closed_room [] f slots h = tt
closed_room (x ∷ xs) f slots h = (omega arith, closed_room xs f slots (omega arith))

pub inner_room : (xs : List ℕ) (f : Fol) → room_of f ≤ room_of (closed_over xs f)
inner_room [] f = omega arith
inner_room (x ∷ xs) f = omega (arith, inner_room xs f)

below_top : (x top : ℕ) → IsTrue (nat_le x top) → x < top + 1
below_top x top h = grind (arith, nat_tests)

-- elements within are digits
digits_of : (top : ℕ) (d : Assignment) (xs : List ℕ) → ((x : ℕ) → IsTrue (nat_le (d x) top)) → AreDigits (map (λ x. top + 1) xs) (map d xs)
digits_of top d [] h = tt
digits_of top d (x ∷ xs) h = (below_top (d x) top (h x), digits_of top d xs h)

pub zero_digits : (top : ℕ) (xs : List ℕ) → AreDigits (map (λ x. top + 1) xs) (map (λ x. 0) xs)
zero_digits top [] = tt
zero_digits top (x ∷ xs) = (omega arith, zero_digits top xs)

pub zero_number : (top : ℕ) (xs : List ℕ) → digits_number (map (λ x. top + 1) xs) (map (λ x. 0) xs) ≡ 0
zero_number top [] = refl
zero_number top (x ∷ xs) = omega (arith, zero_number top xs)

first_of_two : (x y : ℕ) (xs ys : List ℕ) → x ∷ xs ≡ y ∷ ys → (x ≡ y) × (xs ≡ ys)
first_of_two x y xs ys e = (cc, cc)

-- assignments with the same elements for a list of variables agree on each of them
agree : (d e : Assignment) (xs : List ℕ) → map d xs ≡ map e xs → (x : ℕ) → IsTrue (is_in x xs) → d x ≡ e x
agree d e [] h x i = absurd (false≢true i)
agree d e (y ∷ ys) h x i =
    let parts = first_of_two (d y) (e y) (map d ys) (map e ys) h in
    elim (cases_eq x y) [
      | inl same ↦ rw same parts.0
      | inr apart ↦ agree d e ys parts.1 x (grind (arith, nat_tests))
    ]

digit_of : (size : ℕ) (a : Assignment) (xs : List ℕ) → AreDigits (map (λ x. size) xs) (map a xs) → (x : ℕ) → IsTrue (is_in x xs) → a x < size
digit_of size a [] h x i = absurd (false≢true i)
digit_of size a (y ∷ ys) h x i =
    elim (cases_eq x y) [
      | inl same ↦ rw same h.0
      | inr apart ↦ digit_of size a ys h.1 x (grind (arith, nat_tests))
    ]

itself : (t : Finite) (x : ℕ) → x < t.top + 1 → element t x ≡ x
itself t x h = grind (arith, nat_tests)

module _ (t : Finite) (f : Fol) (xs : List ℕ) where
  -- the formula is true at all elements that come before those of an assignment
  abbrev pub IsPassed : Assignment → Type 0
  IsPassed a = (d : Assignment) → IsWithin (meaning_of t) d → digits_number (map (λ x. t.top + 1) xs) (map d xs) < digits_number (map (λ x. t.top + 1) xs) (map a xs) → Holds (meaning_of t) d f

  module _ (is : xs ≡ free_vars_of f) (a : Assignment) (digits : AreDigits (map (λ x. t.top + 1) xs) (map a xs)) where
    alike : (d e : Assignment) → ((x : ℕ) → IsTrue (is_in x xs) → d x ≡ e x) → Holds (meaning_of t) d f → Holds (meaning_of t) e f
    alike d e h = (free_decide (meaning_of t) d e f (rw is at h)).0

    up_to : IsPassed a → Holds (meaning_of t) a f → (d : Assignment) → IsWithin (meaning_of t) d → digits_number (map (λ x. t.top + 1) xs) (map d xs) < digits_number (map (λ x. t.top + 1) xs) (map a xs) + 1
        → Holds (meaning_of t) d f
    up_to passed now d within less =
        let bs = map (λ x. t.top + 1) xs in
        elim (cases_lt (digits_number bs (map d xs)) (digits_number bs (map a xs))) [
          | inl before ↦ passed d within before
          | inr not ↦
              let same = number_same bs (map d xs) (map a xs) (digits_of t.top d xs within) digits (omega arith) in
              alike a d (λ x i. sym (agree d a xs same x i)) now
        ]

    pub passed_more : (b : Assignment) → IsPassed a → Holds (meaning_of t) a f → digits_number (map (λ x. t.top + 1) xs) (map b xs) ≡ digits_number (map (λ x. t.top + 1) xs) (map a xs) + 1 → IsPassed b
    passed_more b passed now next d within less = up_to passed now d within (omega arith)

    -- after the last elements it is true of all
    pub passed_all : IsPassed a → Holds (meaning_of t) a f → digits_count (map (λ x. t.top + 1) xs) ≡ digits_number (map (λ x. t.top + 1) xs) (map a xs) + 1 → (e : Assignment) → Holds (meaning_of t) e (closure_of f)
    passed_all passed now last e = (closure_general (meaning_of t) (tables_lawful t) e f).1 (λ d within.
        up_to passed now d within (omega (arith, number_below (map (λ x. t.top + 1) xs) (map d xs) (digits_of t.top d xs within))))

    -- elements at which it is false show the closure false
    pub fails : ¬ Holds (meaning_of t) a f → (e : Assignment) → ¬ Holds (meaning_of t) e (closure_of f)
    fails not e whole =
        let d : Assignment = λ x. element t (a x) in
        let at_d = (closure_general (meaning_of t) (tables_lawful t) e f).0 whole d (λ x. element_within t (a x)) in
        not (alike d a (λ x i. itself t (a x) (digit_of (t.top + 1) a xs digits x i)) at_d)
