-- The names of literals read as their places.
use Rattle.std.proofs.Common.{◌≡◌, ℕ, zero, suc, ◌+◌, ◌*◌, ◌-◌, ◌^◌, ◌<◌, ◌≤◌, ◌/◌, ◌%◌, Bool, true, List, [], ◌∷◌, ◌++◌, refl, sym, ap, ◌∙◌, append_assoc, arith}
use Rattle.std.specs.List.{list_all}
use Rattle.std.specs.Char.{is_ascii_lowercase}
use Rattle.std.proofs.lemmas.Bool.{and_parts, and_from}
use Rattle.std.proofs.lemmas.Bool.Decides.{nat_tests}
use Rattle.ladr_lex.specs.Bytes.{is_ordinary}
use Rattle.ladr_lex.specs.Cuts.{is_run}
use Rattle.proof_words.specs.Names.{is_literal_name, letters_from, place_named}
use Rattle.words_print.specs.WordTokens.{letters_within, literal_name}

-- one more letter behind others
letters_more : (n : ℕ) (bs : List ℕ) (b : ℕ) → letters_from n (bs ++ b ∷ []) ≡ letters_from n bs * 26 + (b - 96)
letters_more n [] b = refl
letters_more n (c ∷ bs) b = letters_more (n * 26 + (c - 96)) bs b

letters_value : (steps n : ℕ) → n ≤ steps → letters_from 0 (letters_within steps n) ≡ n
letters_value zero n h = omega arith
letters_value (suc steps) zero h = refl
letters_value (suc steps) (suc a) h =
    let e = letters_value steps (a / 26) (omega arith) in
    letters_more 0 (letters_within steps (a / 26)) (97 + a % 26) ∙ omega (arith, e)

all_more : (test : ℕ → Bool) (bs : List ℕ) (b : ℕ) → list_all test bs ≡ true → test b ≡ true → list_all test (bs ++ b ∷ []) ≡ true
all_more test [] b h k = and_from (test b) true k refl
all_more test (c ∷ bs) b h k =
    let parts = and_parts (test c) (list_all test bs) h in
    and_from (test c) (list_all test (bs ++ b ∷ [])) parts.0 (all_more test bs b parts.1 k)

lowercase : (d : ℕ) → d < 26 → is_ascii_lowercase (97 + d) ≡ true
lowercase d h = grind (arith, nat_tests)

letters_lower : (steps n : ℕ) → list_all is_ascii_lowercase (letters_within steps n) ≡ true
letters_lower zero n = refl
letters_lower (suc steps) zero = refl
letters_lower (suc steps) (suc a) = all_more is_ascii_lowercase (letters_within steps (a / 26)) (97 + a % 26) (letters_lower steps (a / 26)) (lowercase (a % 26) (omega arith))

name_more : (bs : List ℕ) (b : ℕ) → list_all is_ascii_lowercase (bs ++ b ∷ []) ≡ true → is_literal_name (bs ++ b ∷ []) ≡ true
name_more [] b h = h
name_more (c ∷ bs) b h = h

pub literal_is : (a : ℕ) → is_literal_name (literal_name a) ≡ true
literal_is a = name_more (letters_within a (a / 26)) (97 + a % 26) (letters_lower (suc a) (suc a))

pub place_is : (a : ℕ) → a < 2 ^ 64 → place_named (literal_name a) ≡ a
place_is a h = let e = letters_value (suc a) (suc a) (omega arith) in omega (arith, e)

letters_ordinary : (bs : List ℕ) → list_all is_ascii_lowercase bs ≡ true → list_all is_ordinary bs ≡ true
unfolding is_ordinary
letters_ordinary [] a = refl
letters_ordinary (b ∷ bs) a = grind (arith, nat_tests, letters_ordinary bs)

run_more : (bs : List ℕ) (b : ℕ) → list_all is_ordinary (bs ++ b ∷ []) ≡ true → is_run is_ordinary (bs ++ b ∷ []) ≡ true
run_more [] b h = h
run_more (c ∷ bs) b h = h

pub literal_run : (a : ℕ) → is_run is_ordinary (literal_name a) ≡ true
literal_run a = run_more (letters_within a (a / 26)) (97 + a % 26) (letters_ordinary (literal_name a) (letters_lower (suc a) (suc a)))

-- more steps than letters change nothing
steps_enough : (k m n : ℕ) → n ≤ k → n ≤ m → letters_within k n ≡ letters_within m n
steps_enough zero zero n h i = refl
steps_enough zero (suc m) zero h i = refl
steps_enough zero (suc m) (suc a) h i = absurd (omega arith)
steps_enough (suc k) zero zero h i = refl
steps_enough (suc k) zero (suc a) h i = absurd (omega arith)
steps_enough (suc k) (suc m) zero h i = refl
steps_enough (suc k) (suc m) (suc a) h i =
    let e = steps_enough k m (a / 26) (omega arith) (omega arith) in
    ap (λ (bs : List ℕ). bs ++ (97 + a % 26) ∷ []) e

before_one : (n : ℕ) → 0 < n → suc (n - 1) ≡ n
before_one n h = omega arith

-- a name of one letter, and one with letters in front of the last
pub name_alone : (a : ℕ) → a < 26 → literal_name a ≡ (97 + a) ∷ []
name_alone a h =
    let front : a / 26 ≡ 0 = omega arith in
    let last : a % 26 ≡ a = omega arith in
    (λ i. letters_within a (front i) ++ (97 + last i) ∷ [])
    ∙ ap (λ (bs : List ℕ). bs ++ (97 + a) ∷ []) (steps_enough a zero zero (omega arith) (omega arith))

pub name_front : (a : ℕ) → 26 ≤ a → literal_name a ≡ literal_name (a / 26 - 1) ++ (97 + a % 26) ∷ []
name_front a h =
    let some : 0 < a / 26 = omega arith in
    let front : suc (a / 26 - 1) ≡ a / 26 = before_one (a / 26) some in
    let e : letters_within a (a / 26) ≡ letters_within (suc (a / 26 - 1)) (suc (a / 26 - 1)) =
    steps_enough a (suc (a / 26 - 1)) (a / 26) (omega arith) (omega arith) ∙ ap (letters_within (suc (a / 26 - 1))) (sym front)
    in
    ap (λ (bs : List ℕ). bs ++ (97 + a % 26) ∷ []) e

-- a text with a name behind it
pub with_alone : (out new : List ℕ) (a : ℕ) → a < 26 → new ≡ out ++ (97 + a) ∷ [] → new ≡ out ++ literal_name a
with_alone out new a h e = e ∙ ap (λ (bs : List ℕ). out ++ bs) (sym (name_alone a h))

pub with_front : (out mid new : List ℕ) (a : ℕ) → 26 ≤ a → mid ≡ out ++ literal_name (a / 26 - 1) → new ≡ mid ++ (97 + a % 26) ∷ [] → new ≡ out ++ literal_name a
with_front out mid new a h front e =
    e ∙ ap (λ (bs : List ℕ). bs ++ (97 + a % 26) ∷ []) front ∙ append_assoc out (literal_name (a / 26 - 1)) ((97 + a % 26) ∷ [])
    ∙ ap (λ (bs : List ℕ). out ++ bs) (sym (name_front a h))
