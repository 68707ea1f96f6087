use Rattle.std.proofs.Common.{◌≡◌, ◌≢◌, ◌≤◌, ◌^◌, ◌-◌, ◌==◌, nat_lt, nat_le, length, slice_index, ℕ, Bool, true, false, List, [], ◌∷◌, Some, None, refl, ap, ◌∙◌, if◌then◌else◌, option_and_then, ne_eqb, le-leb}
use Rattle.std.specs.List.{list_all}
use Rattle.std.specs.Char.{digit_value}
use Rattle.std.specs.Str.Parse.{digits_value, without_leading_plus}
use Rattle.clap.specs.Faults.{fault_of}
use Rattle.clap.specs.Kinds.{Kinds}
use Rattle.clap.specs.Simple.{subcommand_of}
use Rattle.clap.specs.ValueTests.{is_unsigned_in}
use Rattle.clap.proofs.WalkLemmas.{both}
use Rattle.clap.proofs.OnLiterals.{clap_on_literals}
use Rattle.ladr_words.specs.Commands.{ladr_app, ladr_on_literals}
use Rattle.ladr_words.specs.Tasks.{task_of, task_named, number_written}
use Rattle.ladr_words.specs.Worked.{searching, mace4}
use Rattle.ladr_words.proofs.laws.start_size_is_read.Goals as goal

-- clap has no error for them, and finds the number
no_fault : (x : ℕ) (xs : List ℕ) → (x == 45) ≡ false
    → nat_lt 0 (length (without_leading_plus (x ∷ xs))) ≡ true → list_all (λ d. nat_lt (digit_value d) 10) (without_leading_plus (x ∷ xs)) ≡ true
    → nat_lt (digits_value 10 (without_leading_plus (x ∷ xs))) (2 ^ 64) ≡ true
    → nat_le 0 (digits_value 10 (without_leading_plus (x ∷ xs))) ≡ true
    → nat_le (digits_value 10 (without_leading_plus (x ∷ xs))) (2 ^ 64 - 1) ≡ true
    → nat_le 1 (digits_value 10 (without_leading_plus (x ∷ xs))) ≡ true
    → nat_le (digits_value 10 (without_leading_plus (x ∷ xs))) 200 ≡ true
    → fault_of ladr_app (mace4 ((45 ∷ 110 ∷ []) ∷ (x ∷ xs) ∷ [])) ≡ []
unfolding clap_on_literals ladr_on_literals
no_fault x xs hyphen long numeral fits zero most low high = simp (hyphen, long, numeral, fits, low, high) refl

found : (x : ℕ) (xs : List ℕ) → (x == 45) ≡ false
    → nat_lt 0 (length (without_leading_plus (x ∷ xs))) ≡ true → list_all (λ d. nat_lt (digit_value d) 10) (without_leading_plus (x ∷ xs)) ≡ true
    → nat_lt (digits_value 10 (without_leading_plus (x ∷ xs))) (2 ^ 64) ≡ true
    → nat_le 0 (digits_value 10 (without_leading_plus (x ∷ xs))) ≡ true
    → nat_le (digits_value 10 (without_leading_plus (x ∷ xs))) (2 ^ 64 - 1) ≡ true
    → nat_le 1 (digits_value 10 (without_leading_plus (x ∷ xs))) ≡ true
    → nat_le (digits_value 10 (without_leading_plus (x ∷ xs))) 200 ≡ true
    → option_and_then (λ found. task_named found.0 found.1) (subcommand_of ladr_app (mace4 ((45 ∷ 110 ∷ []) ∷ (x ∷ xs) ∷ []))) ≡ searching (Some (digits_value 10 (without_leading_plus (x ∷ xs)))) None None None
unfolding clap_on_literals ladr_on_literals
found x xs hyphen long numeral fits zero most low high = simp (hyphen, long, numeral, fits, zero, most, low, high) refl

reads : (x : ℕ) (xs : List ℕ) → (x == 45) ≡ false
    → nat_lt 0 (length (without_leading_plus (x ∷ xs))) ≡ true → list_all (λ d. nat_lt (digit_value d) 10) (without_leading_plus (x ∷ xs)) ≡ true
    → nat_lt (digits_value 10 (without_leading_plus (x ∷ xs))) (2 ^ 64) ≡ true
    → nat_le 0 (digits_value 10 (without_leading_plus (x ∷ xs))) ≡ true
    → nat_le (digits_value 10 (without_leading_plus (x ∷ xs))) (2 ^ 64 - 1) ≡ true
    → nat_le 1 (digits_value 10 (without_leading_plus (x ∷ xs))) ≡ true
    → nat_le (digits_value 10 (without_leading_plus (x ∷ xs))) 200 ≡ true
    → task_of (mace4 ((45 ∷ 110 ∷ []) ∷ (x ∷ xs) ∷ [])) ≡ searching (Some (digits_value 10 (without_leading_plus (x ∷ xs)))) None None None
unfolding task_of
reads x xs hyphen long numeral fits zero most low high =
    let words = mace4 ((45 ∷ 110 ∷ []) ∷ (x ∷ xs) ∷ []) in
    ap (λ (f : Kinds). if length f == 0 then option_and_then (λ found. task_named found.0 found.1) (subcommand_of ladr_app words) else None) (no_fault x xs hyphen long numeral fits zero most low high)
    ∙ found x xs hyphen long numeral fits zero most low high

by_test : (x : ℕ) (xs : List ℕ) (n : ℕ) (b : Bool) → is_unsigned_in 0 (2 ^ 64 - 1) (x ∷ xs) ≡ b
    → (if b then Some (digits_value 10 (without_leading_plus (x ∷ xs))) else None) ≡ Some n → 1 ≤ n → n ≤ 200 → x ≢ 45
    → task_of (mace4 ((45 ∷ 110 ∷ []) ∷ (x ∷ xs) ∷ [])) ≡ searching (Some n) None None None
by_test x xs n false e is low high dash = cc
by_test x xs n true e is low high dash =
    let value : digits_value 10 (without_leading_plus (x ∷ xs)) ≡ n = cc in
    let parts = both _ _ e in
    let numeral = both _ _ parts.0 in
    let bounds = both _ _ parts.1 in
    let ends = both _ _ bounds.1 in
    reads x xs (ne_eqb x 45 dash) numeral.0 numeral.1 bounds.0 ends.0 ends.1
    (ap (nat_le 1) value ∙ le-leb 1 n low) (ap (λ k. nat_le k 200) value ∙ le-leb n 200 high) ∙ ap (λ k. searching (Some k) None None None) value

by_text : (text : List ℕ) (n : ℕ) → number_written text ≡ Some n → 1 ≤ n → n ≤ 200 → slice_index text 0 ≢ 45
    → task_of (mace4 ((45 ∷ 110 ∷ []) ∷ text ∷ [])) ≡ searching (Some n) None None None
by_text [] n is low high dash = cc
by_text (x ∷ xs) n is low high dash = by_test x xs n (is_unsigned_in 0 (2 ^ 64 - 1) (x ∷ xs)) refl is low high dash

pub returns : goal.returns
returns c = by_text
