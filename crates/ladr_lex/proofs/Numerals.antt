-- Numerals and the decimal digits of their numbers.
use Rattle.std.proofs.Common.{◌≡◌, ℕ, zero, suc, ◌+◌, ◌*◌, ◌-◌, ◌^◌, ◌<◌, ◌≤◌, Bool, true, false, List, [], ◌∷◌, length, get_or, drop, Option, Some, None, sym, inl, inr, refl, ap, ◌∙◌, arith, rules}
use Rattle.std.specs.Prelude.{not, ◌==◌, ◌||◌, if◌then◌else◌, min, unwrap_or}
use Rattle.std.specs.List.{list_all}
use Rattle.std.specs.Char.{is_ascii_digit}
use Rattle.std.specs.Fmt.{decimal}
use Rattle.std.proofs.lemmas.Bool.{and_from, and_parts, or_left, or_right, cases_Bool, cases_eq, cases_lt, eq-eqb, ne_eqb}
use Rattle.std.proofs.lemmas.List.{drop_more, drop_all}
use Rattle.std.proofs.lemmas.Bool.Decides.{nat_tests}
use Rattle.std.proofs.lemmas.Fmt.{decimal_is_IsNumeral, decimal_digit, first_decimal, digits_decimal, decimal-digits_value, digits_value-decimal}
use Rattle.std.proofs.lemmas.Str.Parse.{IsNumeralModel, numerals_by_fold}
use Rattle.ladr_lex.specs.Bytes.{is_ordinary}
use Rattle.ladr_lex.specs.Cuts.{is_run}
use Rattle.ladr_lex.specs.Numeral.{is_numeral, value, value_from, fitting, whole_number, limited_number_of}

pub own : IsNumeralModel (λ ds. list_all is_ascii_digit ds ≡ true) value
own = numerals_by_fold _ (search rules) value_from (search rules)

-- a number grows with each digit
pub value_grows : (n : ℕ) (ds : List ℕ) → n ≤ value_from n ds
value_grows n [] = omega arith
value_grows n (d ∷ ds) = omega (arith, value_grows (n * 10 + (d - 48)) ds)

pub cut_off : (bytes : List ℕ) (i n : ℕ) → i < length bytes → fitting (n * 10 + (get_or bytes i 0 - 48)) ≡ None → value_from n (drop i bytes) ≡ value bytes → fitting (value bytes) ≡ None
cut_off bytes i n h none is =
    let great : 2 ^ 64 ≤ n * 10 + (get_or bytes i 0 - 48) = grind (arith, nat_tests) in
    let ahead : value_from n (drop i bytes) ≡ value_from (n * 10 + (get_or bytes i 0 - 48)) (drop (i + 1) bytes) = ap (value_from n) (drop_more bytes i 0 h) in
    let all : 2 ^ 64 ≤ value bytes = omega (arith, value_grows (n * 10 + (get_or bytes i 0 - 48)) (drop (i + 1) bytes), ahead, is) in
    grind (arith, nat_tests)

fits_is : (m n : ℕ) → fitting m ≡ Some n → (n ≡ m) × (n < 2 ^ 64)
fits_is m n h =
    elim (cases_lt m (2 ^ 64)) [
      | inl l ↦ (let f : fitting m ≡ Some m = grind (arith, nat_tests) in let e : n ≡ m = cc in (e, omega arith))
      | inr g ↦ absurd (let f : fitting m ≡ None = grind (arith, nat_tests) in cc)
    ]

pub more_digits : (bytes : List ℕ) (i n m : ℕ) → i < length bytes → fitting (n * 10 + (get_or bytes i 0 - 48)) ≡ Some m → value_from n (drop i bytes) ≡ value bytes →
    (value_from m (drop (i + 1) bytes) ≡ value bytes) × (m < 2 ^ 64)
more_digits bytes i n m h fits is =
    let f = fits_is _ m fits in
    (ap (λ (k : ℕ). value_from k (drop (i + 1) bytes)) f.0 ∙ sym (ap (value_from n) (drop_more bytes i 0 h)) ∙ is, f.1)

pub all_fits : (bytes : List ℕ) (i n : ℕ) → length bytes ≤ i → value_from n (drop i bytes) ≡ value bytes → n < 2 ^ 64 → Some n ≡ fitting (value bytes)
all_fits bytes i n h is fits =
    let e : n ≡ value bytes = sym (ap (value_from n) (drop_all i bytes h)) ∙ is in
    let f : Some n ≡ fitting n = grind (arith, nat_tests) in
    f ∙ ap fitting e

numeral_is : (ds : List ℕ) → list_all is_ascii_digit ds ≡ true → 0 < length ds → (get_or ds 0 0 ≡ 48 → length ds ≡ 1) → is_numeral ds ≡ true
numeral_is [] a l f = absurd (omega arith)
numeral_is (b ∷ bs) a l f = and_from _ _ a (head f)
  where
    head : (b ≡ 48 → suc (length bs) ≡ 1) → (not (b == 48) || length bs == 0) ≡ true
    head f = elim (cases_eq b 48) [
      | inl e ↦ (let n : (length bs == 0) ≡ true = eq-eqb (length bs) 0 (omega (arith, f e)) in or_right (not (b == 48)) (length bs == 0) n)
      | inr d ↦ (let n : (b == 48) ≡ false = ne_eqb b 48 d in or_left (not (b == 48)) (length bs == 0) (ap not n))
    ]

zero_alone : (n : ℕ) → n < 2 ^ 64 → get_or (decimal n) 0 0 ≡ 48 → length (decimal n) ≡ 1
zero_alone zero h e = ap length (decimal_digit 0 (omega arith))
zero_alone (suc n) h e = absurd (omega (arith, e, first_decimal (suc n) (omega arith) h))

-- decimal digits are a numeral
pub numeral_decimal : (n : ℕ) → n < 2 ^ 64 → is_numeral (decimal n) ≡ true
numeral_decimal n h = numeral_is (decimal n) (digits_decimal own n h) (decimal_is_IsNumeral n h).0.0 (zero_alone n h)

-- and write their number
pub value_decimal : (n : ℕ) → n < 2 ^ 64 → value (decimal n) ≡ n
value_decimal n h = digits_value-decimal own n h

head_alone : (b : ℕ) (bs : List ℕ) → (not (b == 48) || length bs == 0) ≡ true → b ≡ 48 → length (b ∷ bs) ≡ 1
head_alone b bs h e = grind (arith, nat_tests)

-- a numeral is the decimal digits of its number
pub decimal_value : (text : List ℕ) → is_numeral text ≡ true → value text < 2 ^ 64 → decimal (value text) ≡ text
decimal_value [] h m = absurd (cc)
decimal_value (b ∷ bs) h m =
    let parts = and_parts (list_all is_ascii_digit (b ∷ bs)) (not (b == 48) || length bs == 0) h in
    decimal-digits_value own (b ∷ bs) parts.0 (omega arith) (head_alone b bs parts.1) m

pub whole_decimal : (n : ℕ) → n < 2 ^ 64 → whole_number (decimal n) ≡ Some n
whole_decimal n h =
    let f : fitting n ≡ Some n = grind (arith, nat_tests) in
    ap (λ (b : Bool). if b then fitting (value (decimal n)) else None) (numeral_decimal n h) ∙ ap fitting (value_decimal n h) ∙ f

pub decimal_whole : (text : List ℕ) (n : ℕ) → whole_number text ≡ Some n → text ≡ decimal n
decimal_whole text n h =
    elim (cases_Bool (is_numeral text)) [
      | inl y ↦ (let f = fits_is (value text) n (sym (ap (λ (b : Bool). if b then fitting (value text) else None) y) ∙ h) in
          sym (decimal_value text y (omega (arith, f.0, f.1))) ∙ ap decimal (sym f.0))
      | inr other ↦ absurd (let e : whole_number text ≡ None = ap (λ (b : Bool). if b then fitting (value text) else None) other in cc)
    ]

-- where it is below 4,294,967,295, nothing is cut off
pub decimal_number : (text : List ℕ) → limited_number_of text < 4294967295 → decimal (limited_number_of text) ≡ text
decimal_number text m = by (whole_number text) refl
  where
    by : (o : Option ℕ) → o ≡ whole_number text → decimal (limited_number_of text) ≡ text
    by None is = absurd (let e : limited_number_of text ≡ 4294967295 = ap (λ o. min 4294967295 (unwrap_or o 4294967295)) (sym is) in omega (arith, e, m))
    by (Some n) is =
        let e : limited_number_of text ≡ min 4294967295 n = ap (λ o. min 4294967295 (unwrap_or o 4294967295)) (sym is) in
        let same : limited_number_of text ≡ n = omega (arith, e, m) in
        ap decimal same ∙ sym (decimal_whole text n (sym is))

pub number_decimal : (n : ℕ) → n < 4294967295 → limited_number_of (decimal n) ≡ n
number_decimal n h =
    let e : limited_number_of (decimal n) ≡ min 4294967295 n = ap (λ o. min 4294967295 (unwrap_or o 4294967295)) (whole_decimal n (omega arith)) in
    omega (arith, e, h)

digits_ordinary : (ds : List ℕ) → list_all is_ascii_digit ds ≡ true → list_all is_ordinary ds ≡ true
unfolding is_ordinary
digits_ordinary [] a = refl
digits_ordinary (d ∷ ds) a = grind (arith, nat_tests, digits_ordinary ds)

run_is : (ds : List ℕ) → 0 < length ds → list_all is_ordinary ds ≡ true → is_run is_ordinary ds ≡ true
run_is [] l a = absurd (omega arith)
run_is (d ∷ ds) l a = a

-- decimal digits are an ordinary symbol
pub ordinary_decimal : (n : ℕ) → n < 2 ^ 64 → is_run is_ordinary (decimal n) ≡ true
ordinary_decimal n h = run_is (decimal n) (decimal_is_IsNumeral n h).0.0 (digits_ordinary (decimal n) (digits_decimal own n h))
