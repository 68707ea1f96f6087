-- Names of literals and the numbers of their places.
use Rattle.std.proofs.Common.{◌≡◌, ℕ, ◌+◌, ◌*◌, ◌-◌, ◌^◌, ◌<◌, ◌≤◌, List, [], ◌∷◌, length, get_or, drop, Some, None, sym, inl, inr, ap, ◌∙◌, arith}
use Rattle.std.proofs.lemmas.Bool.{cases_lt}
use Rattle.std.proofs.lemmas.List.{drop_more, drop_all}
use Rattle.std.proofs.lemmas.Bool.Decides.{nat_tests}
use Rattle.ladr_lex.specs.Numeral.{fitting}
use Rattle.proof_words.specs.Names.{letters_from, place_named}

letters_grow : (n : ℕ) (bs : List ℕ) → n ≤ letters_from n bs
letters_grow n [] = omega arith
letters_grow n (b ∷ bs) = omega (arith, letters_grow (n * 26 + (b - 96)) bs)

pub cut_off : (text : List ℕ) (i n : ℕ) → i < length text → fitting (n * 26 + (get_or text i 0 - 96)) ≡ None → letters_from n (drop i text) ≡ letters_from 0 text → 2 ^ 64 - 1 ≡ place_named text
cut_off text i n h none is =
    let great : 2 ^ 64 ≤ n * 26 + (get_or text i 0 - 96) = grind (arith, nat_tests) in
    let ahead : letters_from n (drop i text) ≡ letters_from (n * 26 + (get_or text i 0 - 96)) (drop (i + 1) text) = ap (letters_from n) (drop_more text i 0 h) in
    omega (arith, letters_grow (n * 26 + (get_or text i 0 - 96)) (drop (i + 1) text), ahead, is, great)

fits_is : (m n : ℕ) → fitting m ≡ Some n → (n ≡ m) × (n < 2 ^ 64)
fits_is m n h =
    elim (cases_lt m (2 ^ 64)) [
      | inl l ↦ (let f : fitting m ≡ Some m = grind (arith, nat_tests) in let e : n ≡ m = cc in (e, omega arith))
      | inr g ↦ absurd (let f : fitting m ≡ None = grind (arith, nat_tests) in cc)
    ]

pub more_letters : (text : List ℕ) (i n m : ℕ) → i < length text → fitting (n * 26 + (get_or text i 0 - 96)) ≡ Some m → letters_from n (drop i text) ≡ letters_from 0 text
    → (letters_from m (drop (i + 1) text) ≡ letters_from 0 text) × (m < 2 ^ 64)
more_letters text i n m h fits is =
    let f = fits_is _ m fits in
    (ap (λ (k : ℕ). letters_from k (drop (i + 1) text)) f.0 ∙ sym (ap (letters_from n) (drop_more text i 0 h)) ∙ is, f.1)

pub all_letters : (text : List ℕ) (i n : ℕ) → length text ≤ i → letters_from n (drop i text) ≡ letters_from 0 text → n < 2 ^ 64 → n - 1 ≡ place_named text
all_letters text i n h is fits =
    let e : n ≡ letters_from 0 text = sym (ap (letters_from n) (drop_all i text h)) ∙ is in
    omega (arith, e, fits)
