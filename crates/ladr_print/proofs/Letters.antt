-- The names of a clause's variables: no two are the same, and each is a free variable's.
use Rattle.std.proofs.Common.{◌≡◌, ℕ, zero, suc, ◌<◌, ◌≤◌, ◌^◌, Bool, true, false, List, [], ◌∷◌, ◌++◌, length, Some, None, inl, inr, refl, sym, ap, ◌∙◌, arith}
use Rattle.std.specs.Prelude.{◌==◌, if◌then◌else◌}
use Rattle.std.specs.Str.{bytes_eq}
use Rattle.std.specs.Str.Parse.{digits_value}
use Rattle.std.specs.Fmt.{decimal}
use Rattle.std.proofs.lemmas.Bool.{cases_Bool, cases_eq}
use Rattle.std.proofs.lemmas.Bool.Decides.{nat_tests}
use Rattle.std.proofs.lemmas.Fmt.{decimal_is_IsNumeral, decimal_nonempty}
use Rattle.std.proofs.lemmas.List.{length-append}
use Rattle.std.proofs.lemmas.Slice.Eq.{bytes_eq-Decides}
use Rattle.ladr_formulas.specs.Formulas.{Variable, free_number, is_free_name}
use Rattle.ladr_formulas.specs.declared.styles.Style.{Style}
use Rattle.ladr_formulas.proofs.NumberingLemmas.{free_number_free}
use Rattle.ladr_print.specs.TermText.{letters, clause_variable}

-- the number of a name
abbrev letter_place : List ℕ → ℕ → ℕ
letter_place [] b = 0
letter_place (c ∷ cs) b = if c == b then 0 else suc (letter_place cs b)

abbrev number_of_name : Bool → List ℕ → ℕ
number_of_name prolog [] = 0
number_of_name prolog (b ∷ []) = letter_place (letters prolog) b
number_of_name prolog (b ∷ c ∷ cs) = digits_value 10 (c ∷ cs)

long_name : (prolog : Bool) (b : ℕ) (ds : List ℕ) → 0 < length ds → number_of_name prolog (b ∷ ds) ≡ digits_value 10 ds
long_name prolog b [] h = absurd (omega arith)
long_name prolog b (d ∷ ds) h = refl

name_tells : (prolog : Bool) (n : ℕ) → n < 2 ^ 64 → number_of_name prolog (clause_variable prolog n) ≡ n
name_tells true zero h = refl
name_tells false zero h = refl
name_tells true (suc zero) h = refl
name_tells false (suc zero) h = refl
name_tells true (suc (suc zero)) h = refl
name_tells false (suc (suc zero)) h = refl
name_tells true (suc (suc (suc zero))) h = refl
name_tells false (suc (suc (suc zero))) h = refl
name_tells true (suc (suc (suc (suc zero)))) h = refl
name_tells false (suc (suc (suc (suc zero)))) h = refl
name_tells true (suc (suc (suc (suc (suc n))))) h = long_name true 86 (decimal (suc (suc (suc (suc (suc n)))))) (decimal_nonempty _ h) ∙ (decimal_is_IsNumeral _ h).1
name_tells false (suc (suc (suc (suc (suc n))))) h = long_name false 118 (decimal (suc (suc (suc (suc (suc n)))))) (decimal_nonempty _ h) ∙ (decimal_is_IsNumeral _ h).1

pub names_apart : (prolog : Bool) (n k : ℕ) → n < 2 ^ 64 → k < 2 ^ 64 → (n ≡ k → ⊥) → bytes_eq (clause_variable prolog n) (clause_variable prolog k) ≡ false
names_apart prolog n k h j d =
    elim (cases_Bool (bytes_eq (clause_variable prolog n) (clause_variable prolog k))) [
      | inl y ↦ absurd (d (sym (name_tells prolog n h) ∙ ap (number_of_name prolog) ((bytes_eq-Decides (clause_variable prolog n) (clause_variable prolog k)).0 y) ∙ name_tells prolog k j))
      | inr m ↦ m
    ]

-- each begins with a letter of variables
pub name_free : (st : Style) (n : ℕ) → is_free_name st (clause_variable st.prolog n) ≡ true
name_free st n = by st.prolog n
  where
    by : (prolog : Bool) (n : ℕ) → is_free_name (record { elements = st.elements; prolog = prolog }) (clause_variable prolog n) ≡ true
    by true zero = refl
    by false zero = refl
    by true (suc zero) = refl
    by false (suc zero) = refl
    by true (suc (suc zero)) = refl
    by false (suc (suc zero)) = refl
    by true (suc (suc (suc zero))) = refl
    by false (suc (suc (suc zero))) = refl
    by true (suc (suc (suc (suc zero)))) = refl
    by false (suc (suc (suc (suc zero)))) = refl
    by true (suc (suc (suc (suc (suc n))))) = refl
    by false (suc (suc (suc (suc (suc n))))) = refl

-- the first variables of a clause
abbrev pub first_variables : Bool → ℕ → List Variable
first_variables prolog zero = []
first_variables prolog (suc n) = first_variables prolog n ++ record { name = clause_variable prolog n; free = true } ∷ []

pub first_length : (prolog : Bool) (n : ℕ) → length (first_variables prolog n) ≡ n
first_length prolog zero = refl
first_length prolog (suc n) = length-append (first_variables prolog n) _ ∙ omega (arith, first_length prolog n)

-- those that come later aren't among them, and each of them is found
pub not_yet : (prolog : Bool) (n k : ℕ) → n ≤ k → k < 2 ^ 64 → free_number 0 (first_variables prolog n) (clause_variable prolog k) ≡ None
not_yet prolog zero k h j = refl
not_yet prolog (suc n) k h j =
    free_number_free 0 (first_variables prolog n) (clause_variable prolog n) (clause_variable prolog k) (not_yet prolog n n (omega arith) (omega (arith, h, j)))
    ∙ rw (names_apart prolog n k (omega (arith, h, j)) j (λ e. omega (arith, h, e))) (not_yet prolog n k (omega (arith, h)) j)

pub found_there : (prolog : Bool) (n k : ℕ) → k < n → n ≤ 2 ^ 64 → free_number 0 (first_variables prolog n) (clause_variable prolog k) ≡ Some k
found_there prolog zero k h j = absurd (omega arith)
found_there prolog (suc n) k h j =
    free_number_free 0 (first_variables prolog n) (clause_variable prolog n) (clause_variable prolog k) (not_yet prolog n n (omega arith) (omega (arith, h, j)))
    ∙ elim (cases_eq n k) [
      | inl e ↦ (let y : bytes_eq (clause_variable prolog n) (clause_variable prolog k) ≡ true = (bytes_eq-Decides _ _).1 (ap (clause_variable prolog) e) in rw y (ap Some (omega (arith, e, first_length prolog n))))
      | inr d ↦ rw (names_apart prolog n k (omega (arith, h, j)) (omega (arith, h, j)) d) (found_there prolog n k (grind (arith, nat_tests)) (omega (arith, j)))
    ]
