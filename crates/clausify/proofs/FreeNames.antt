-- The next free number is free: of one more than a table has symbols, one gives a name that none of them has.
use Rattle.std.proofs.Common.{◌≡◌, ℕ, zero, suc, ◌+◌, ◌^◌, ◌<◌, ◌≤◌, ◌||◌, Bool, true, false, if◌then◌else◌, List, [], ◌∷◌, length, inl, inr, refl, sym, ap, ◌∙◌, subst, arith}
use Rattle.std.specs.Fmt.{decimal}
use Rattle.std.specs.Str.{bytes_eq}
use Rattle.std.specs.Str.Parse.{digits_value}
use Rattle.std.proofs.lemmas.Bool.{true≢false, false_from_ne_true, cases_lt}
use Rattle.std.proofs.lemmas.Fmt.{decimal_is_IsNumeral_wide}
use Rattle.std.proofs.lemmas.Slice.Eq.{bytes_eq-Decides}
use Rattle.fol_core.specs.SymbolTable.{Symbol}
use Rattle.clausify.specs.Names.{letter_numbered, is_named, free_from, next_free}

rest_of : (x y : ℕ) (xs ys : List ℕ) → x ∷ xs ≡ y ∷ ys → xs ≡ ys
rest_of x y xs ys e = cc

-- a name tells its number, where that has as many digits as are written
pub number_told : (letter m n : ℕ) → m < 10 ^ 64 → n < 10 ^ 64 → letter_numbered letter m ≡ letter_numbered letter n → m ≡ n
number_told letter m n h k e = sym (decimal_is_IsNumeral_wide m h).1 ∙ ap (digits_value 10) (rest_of letter letter (decimal m) (decimal n) e) ∙ (decimal_is_IsNumeral_wide n k).1

-- a table that has a name, without one symbol of that name
without : (table : List Symbol) (name : List ℕ) → is_named table name ≡ true
    → (rest : List Symbol) × ((length table ≡ suc (length rest)) × ((other : List ℕ) → (other ≡ name → ⊥) → is_named table other ≡ true → is_named rest other ≡ true))
without [] name h = absurd (true≢false (sym h))
without (s ∷ ss) name h = by (bytes_eq name s.name) refl h (without ss name)
  where
    behind : (b c : Bool) → (b ≡ true → ⊥) → (b || c) ≡ true → c ≡ true
    behind true c no_first h = absurd (no_first refl)
    behind false c no_first h = h

    before : (b c d : Bool) → (c ≡ true → d ≡ true) → (b || c) ≡ true → (b || d) ≡ true
    before true c d more h = refl
    before false c d more h = more h

    by : (b : Bool) → bytes_eq name s.name ≡ b → (b || is_named ss name) ≡ true
        → (is_named ss name ≡ true → (rest : List Symbol) × ((length ss ≡ suc (length rest)) × ((other : List ℕ) → (other ≡ name → ⊥) → is_named ss other ≡ true → is_named rest other ≡ true)))
        → (rest : List Symbol) × ((suc (length ss) ≡ suc (length rest)) × ((other : List ℕ) → (other ≡ name → ⊥) → is_named (s ∷ ss) other ≡ true → is_named rest other ≡ true))
    by true e h later = (
      ss,
      (refl, λ other differs k. behind (bytes_eq other s.name) (is_named ss other) (λ i. differs ((bytes_eq-Decides other s.name).0 i ∙ sym ((bytes_eq-Decides name s.name).0 e))) k),
    )
    by false e h later =
        let r = later h in
        (s ∷ r.0, (ap suc r.1.0, λ other differs k. before (bytes_eq other s.name) (is_named ss other) (is_named r.0 other) (r.1.1 other differs) k))

-- a table that has the names of so many numbers has as many symbols
crowded : (table : List Symbol) (letter n k : ℕ) → n + k ≤ 10 ^ 64 → ((m : ℕ) → n ≤ m → m < n + k → is_named table (letter_numbered letter m) ≡ true) → k ≤ length table
crowded table letter n zero le taken = omega arith
crowded table letter n (suc k) le taken =
    let r = without table (letter_numbered letter n) (taken n (omega arith) (omega arith)) in
    let rest : k ≤ length r.0 = crowded r.0 letter (suc n) k (omega arith) (λ m a b.
    r.1.1 (letter_numbered letter m) (λ e. absurd (omega (arith, a, number_told letter m n (omega (arith, b)) (omega arith) e))) (taken m (omega (arith, a)) (omega (arith, b)))) in
    omega (arith, r.1.0, rest)

-- where the number that is reached is taken, so is each that was passed
all_taken : (table : List Symbol) (letter most n : ℕ) → is_named table (letter_numbered letter (free_from table letter most n)) ≡ true
    → (m : ℕ) → n ≤ m → m < n + suc most → is_named table (letter_numbered letter m) ≡ true
all_taken table letter zero n h m a b = let same : n ≡ m = omega arith in subst (λ k. is_named table (letter_numbered letter k) ≡ true) same h
all_taken table letter (suc most) n h m a b = by (is_named table (letter_numbered letter n)) refl h (all_taken table letter most (n + 1))
  where
    by : (c : Bool) → is_named table (letter_numbered letter n) ≡ c → is_named table (letter_numbered letter (if c then free_from table letter most (n + 1) else n)) ≡ true
        → (is_named table (letter_numbered letter (free_from table letter most (n + 1))) ≡ true → (m : ℕ) → n + 1 ≤ m → m < (n + 1) + suc most → is_named table (letter_numbered letter m) ≡ true)
        → is_named table (letter_numbered letter m) ≡ true
    by false e h later = absurd (true≢false (sym h ∙ e))
    by true e h later = elim (cases_lt n m) [
      | inl lt ↦ later h m (omega (arith, lt)) (omega arith)
      | inr le ↦ (let same : n ≡ m = omega (arith, le) in subst (λ k. is_named table (letter_numbered letter k) ≡ true) same e)
    ]

pub next_is_free : (table : List Symbol) (letter n : ℕ) → n + 1 + suc (length table) ≤ 10 ^ 64 → is_named table (letter_numbered letter (next_free table letter n)) ≡ false
next_is_free table letter n le = false_from_ne_true (is_named table (letter_numbered letter (next_free table letter n))) (λ h.
    absurd (omega (arith, crowded table letter (n + 1) (suc (length table)) le (all_taken table letter (length table) (n + 1) h))))

-- and no more are passed than there are symbols
from_upto : (table : List Symbol) (letter most n : ℕ) → free_from table letter most n ≤ n + most
from_upto table letter zero n = omega arith
from_upto table letter (suc most) n = by (is_named table (letter_numbered letter n)) (from_upto table letter most (n + 1))
  where
    by : (b : Bool) → free_from table letter most (n + 1) ≤ n + 1 + most → (if b then free_from table letter most (n + 1) else n) ≤ n + suc most
    by true h = omega (arith, h)
    by false h = omega arith

pub next_upto : (table : List Symbol) (letter n : ℕ) → next_free table letter n ≤ n + (length table + 1)
next_upto table letter n = omega (arith, from_upto table letter (length table) (n + 1))
