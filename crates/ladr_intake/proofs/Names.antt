-- No name breaks a line.
use Rattle.std.proofs.Common.{◌≡◌, ℕ, ◌==◌, ◌||◌, not, Bool, true, false, List, [], ◌∷◌, codes, refl, ap, ◌∙◌, subst, inl, inr, arith}
use Rattle.std.proofs.lemmas.Bool.{and_from, and_parts, or_cases}
use Rattle.std.proofs.lemmas.Bool.Decides.{nat_tests}
use Rattle.std.proofs.lemmas.Slice.Eq.{bytes_eq-Decides}
use Rattle.std.specs.List.{list_all}
use Rattle.std.specs.Str.{bytes_eq}
use Rattle.ladr_lex.specs.Bytes.{is_ordinary, is_special, is_quote, is_quotable, is_dash}
use Rattle.ladr_lex.specs.Cuts.{is_run, is_special_run, is_plain_symbol, ends_quoted, is_quoted}
use Rattle.ladr_output.proofs.Standing.{is_unbroken}
use Rattle.ladr_problem.specs.Names.{is_name}

-- a class without the byte that ends a line
breaks_none : (class : ℕ → Bool) → class 10 ≡ false → (b : ℕ) → class b ≡ true → not (b == 10) ≡ true
breaks_none class none b h = by (b == 10) refl
  where
    by : (t : Bool) → (b == 10) ≡ t → not t ≡ true
    by false e = refl
    by true e =
        let same : b ≡ 10 = grind (arith, nat_tests) in
        let there : class 10 ≡ true = subst (λ (x : ℕ). class x ≡ true) same h in
        absurd cc

class_unbroken : (class : ℕ → Bool) → class 10 ≡ false → (bs : List ℕ) → list_all class bs ≡ true → is_unbroken bs ≡ true
class_unbroken class none [] h = refl
class_unbroken class none (b ∷ bs) h =
    let parts = and_parts (class b) (list_all class bs) h in
    and_from (not (b == 10)) (is_unbroken bs) (breaks_none class none b parts.0) (class_unbroken class none bs parts.1)

run_unbroken : (class : ℕ → Bool) → class 10 ≡ false → (bs : List ℕ) → is_run class bs ≡ true → is_unbroken bs ≡ true
run_unbroken class none [] h = refl
run_unbroken class none (b ∷ bs) h = class_unbroken class none (b ∷ bs) h

no_ordinary : is_ordinary 10 ≡ false
unfolding is_ordinary
no_ordinary = refl

no_special : is_special 10 ≡ false
unfolding is_special
no_special = refl

special_unbroken : (bs : List ℕ) → is_special_run bs ≡ true → is_unbroken bs ≡ true
special_unbroken [] h = refl
special_unbroken (b ∷ []) h = and_from (not (b == 10)) true (breaks_none is_special no_special b (and_parts (is_special b) (not (is_dash b)) h).0) refl
special_unbroken (b ∷ c ∷ cs) h =
    let parts = and_parts (is_special b) (is_special_run (c ∷ cs)) h in
    and_from (not (b == 10)) (is_unbroken (c ∷ cs)) (breaks_none is_special no_special b parts.0) (special_unbroken (c ∷ cs) parts.1)

ends_unbroken : (bs : List ℕ) → ends_quoted bs ≡ true → is_unbroken bs ≡ true
ends_unbroken [] h = refl
ends_unbroken (b ∷ []) h = and_from (not (b == 10)) true (breaks_none is_quote refl b h) refl
ends_unbroken (b ∷ c ∷ cs) h =
    let parts = and_parts (is_quotable b) (ends_quoted (c ∷ cs)) h in
    and_from (not (b == 10)) (is_unbroken (c ∷ cs)) (breaks_none is_quotable refl b parts.0) (ends_unbroken (c ∷ cs) parts.1)

quoted_unbroken : (bs : List ℕ) → is_quoted bs ≡ true → is_unbroken bs ≡ true
quoted_unbroken [] h = refl
quoted_unbroken (b ∷ bs) h =
    let parts = and_parts (is_quote b) (ends_quoted bs) h in
    and_from (not (b == 10)) (is_unbroken bs) (breaks_none is_quote refl b parts.0) (ends_unbroken bs parts.1)

given_unbroken : (bs text : List ℕ) → is_unbroken text ≡ true → bytes_eq bs text ≡ true → is_unbroken bs ≡ true
given_unbroken bs text u h = ap is_unbroken ((bytes_eq-Decides bs text).0 h) ∙ u

symbol_unbroken : (bs : List ℕ) → is_plain_symbol bs ≡ true → is_unbroken bs ≡ true
symbol_unbroken bs h = elim (or_cases (is_run is_ordinary bs) _ h) [
  | inl run ↦ run_unbroken is_ordinary no_ordinary bs run
  | inr special ↦ elim (or_cases (bytes_eq bs (codes "'") || bytes_eq bs (codes "-") || bytes_eq bs (codes "<-")) (is_special_run bs) special) [
    | inr run ↦ special_unbroken bs run
    | inl given ↦ elim (or_cases (bytes_eq bs (codes "'") || bytes_eq bs (codes "-")) (bytes_eq bs (codes "<-")) given) [
      | inr arrow ↦ given_unbroken bs (codes "<-") refl arrow
      | inl short ↦ elim (or_cases (bytes_eq bs (codes "'")) (bytes_eq bs (codes "-")) short) [
        | inl apostrophe ↦ given_unbroken bs (codes "'") refl apostrophe
        | inr dash ↦ given_unbroken bs (codes "-") refl dash
      ]
    ]
  ]
]

pub name_unbroken : (name : List ℕ) → is_name name ≡ true → is_unbroken name ≡ true
name_unbroken name h = elim (or_cases (is_plain_symbol name) (is_quoted name) h) [
  | inl symbol ↦ symbol_unbroken name symbol
  | inr quoted ↦ quoted_unbroken name quoted
]
