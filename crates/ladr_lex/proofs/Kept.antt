-- The longest run of special bytes that doesn't end with `-`.
use Rattle.std.proofs.Common.{◌≡◌, ℕ, suc, ◌≤◌, Bool, true, false, List, [], ◌∷◌, ◌++◌, length, take, drop, inl, inr, refl, ap, ◌∙◌, arith}
use Rattle.std.specs.Prelude.{◌≢◌}
use Rattle.std.specs.List.{prefix_len, list_all}
use Rattle.std.proofs.Math.Numerals.{one-add}
use Rattle.std.proofs.lemmas.Bool.{cases_Bool, cases_eq, and_from}
use Rattle.std.proofs.lemmas.List.{append-nil}
use Rattle.std.proofs.lemmas.List.Sums.{prefix_len-le-length}
use Rattle.std.proofs.lemmas.Bool.Decides.{nat_tests}
use Rattle.ladr_lex.specs.Bytes.{is_special, is_dash}
use Rattle.ladr_lex.specs.Cuts.{is_special_run}
use Rattle.ladr_lex.specs.Lexed.{kept}

-- it is at least as long as each of them
pub kept_longest : (m r : List ℕ) → is_special_run m ≡ true → length m ≤ kept (m ++ r)
kept_longest [] r h = omega arith
kept_longest (b ∷ []) r h = grind (arith, nat_tests)
kept_longest (b ∷ c ∷ cs) r h =
    let s : is_special b ≡ true = grind arith in
    let t : is_special_run (c ∷ cs) ≡ true = grind arith in
    let more = kept_longest (c ∷ cs) r t in
    grind (arith, nat_tests)

pub kept_within : (bs : List ℕ) → kept bs ≤ length bs
kept_within [] = omega arith
kept_within (b ∷ bs) = grind (arith, nat_tests, kept_within bs)

-- what one byte more in front makes of it
data Grows (b : ℕ) (bs : List ℕ) : Type 0 where
  none : kept (b ∷ bs) ≡ 0 → Grows b bs
  one : kept bs ≡ 0 → is_special b ≡ true → is_dash b ≡ false → kept (b ∷ bs) ≡ 1 → Grows b bs
  more : kept bs ≢ 0 → is_special b ≡ true → kept (b ∷ bs) ≡ suc (kept bs) → Grows b bs

grows : (b : ℕ) (bs : List ℕ) → Grows b bs
grows b bs =
    elim (cases_Bool (is_special b)) [
      | inr s ↦ none (grind arith)
      | inl s ↦ elim (cases_eq (kept bs) 0) [
        | inr k ↦ more k s (grind (arith, nat_tests))
        | inl k ↦ elim (cases_Bool (is_dash b)) [
          | inl d ↦ none (grind (arith, nat_tests))
          | inr d ↦ one k s d (grind (arith, nat_tests))
        ]
      ]
    ]

pub run_more : (b : ℕ) (m : List ℕ) → is_special b ≡ true → is_special_run m ≡ true → is_special_run (b ∷ m) ≡ true
run_more b [] s h = absurd (cc)
run_more b (c ∷ cs) s h = grind arith

-- it is one of them
pub kept_run : (bs : List ℕ) → kept bs ≢ 0 → is_special_run (take (kept bs) bs) ≡ true
kept_run [] h = absurd (h refl)
kept_run (b ∷ bs) h =
    elim (grows b bs) [
      | none k ↦ absurd (h k)
      | one z s d k ↦ ap (λ (n : ℕ). is_special_run (take n (b ∷ bs))) k ∙ grind arith
      | more n s k ↦ ap (λ (n : ℕ). is_special_run (take n (b ∷ bs))) k ∙ run_more b (take (kept bs) bs) s (kept_run bs n)
    ]

-- behind it there is none
pub kept_behind : (bs : List ℕ) → kept (drop (kept bs) bs) ≡ 0
kept_behind [] = refl
kept_behind (b ∷ bs) =
    elim (grows b bs) [
      | none k ↦ ap (λ (n : ℕ). kept (drop n (b ∷ bs))) k ∙ k
      | one z s d k ↦ ap (λ (n : ℕ). kept (drop n (b ∷ bs))) k ∙ z
      | more n s k ↦ ap (λ (n : ℕ). kept (drop n (b ∷ bs))) k ∙ kept_behind bs
    ]

-- a run of a class: it passes, and no longer front does
pub run_passes : (p : ℕ → Bool) (bs : List ℕ) → list_all p (take (prefix_len p bs) bs) ≡ true
run_passes p [] = refl
run_passes p (b ∷ bs) =
    elim (cases_Bool (p b)) [
      | inl y ↦ (let e : prefix_len p (b ∷ bs) ≡ suc (prefix_len p bs) = rw (y, one-add) refl in ap (λ (n : ℕ). list_all p (take n (b ∷ bs))) e ∙ and_from (p b) (list_all p (take (prefix_len p bs) bs)) y (run_passes p bs))
      | inr y ↦ (let e : prefix_len p (b ∷ bs) ≡ 0 = rw y refl in ap (λ (n : ℕ). list_all p (take n (b ∷ bs))) e)
    ]

pub run_longest : (p : ℕ → Bool) (m r : List ℕ) → list_all p m ≡ true → length m ≤ prefix_len p (m ++ r)
run_longest p [] r h = omega arith
run_longest p (b ∷ m) r h =
    let s : p b ≡ true = grind arith in
    let t : list_all p m ≡ true = grind arith in
    let more = run_longest p m r t in
    grind (arith, nat_tests)

-- a whole run
pub kept_whole : (m : List ℕ) → is_special_run m ≡ true → kept m ≡ length m
kept_whole m h = omega (arith, kept_within m, kept_longest m [] h, ap (λ (l : List ℕ). kept l) (append-nil m))

pub run_whole : (p : ℕ → Bool) (m : List ℕ) → list_all p m ≡ true → prefix_len p m ≡ length m
run_whole p m h = omega (arith, prefix_len-le-length p m, run_longest p m [] h, ap (λ (l : List ℕ). prefix_len p l) (append-nil m))

-- more bytes behind make no run shorter
pub kept_grows : (m r : List ℕ) → kept m ≤ kept (m ++ r)
kept_grows [] r = omega arith
kept_grows (b ∷ m) r = grind (arith, nat_tests, kept_grows m r)

pub run_grows : (p : ℕ → Bool) (m r : List ℕ) → prefix_len p m ≤ prefix_len p (m ++ r)
run_grows p [] r = omega arith
run_grows p (b ∷ m) r = grind (arith, nat_tests, run_grows p m r)
