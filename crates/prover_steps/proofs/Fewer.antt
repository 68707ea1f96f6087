-- How many clauses are held when some are retired or put back.
use Rattle.std.proofs.Common.{◌≡◌, ℕ, suc, ◌≤◌, ◌+◌, Bool, true, false, not, ◌&&◌, ◌||◌, nat_lt, if◌then◌else◌, length, List, [], ◌∷◌, filter, refl, sym, ap, ◌∙◌, eq-eqb, arith}
use Rattle.std.proofs.lemmas.Bool.{and_from, or_left, or_right}
use Rattle.std.specs.List.{AllByRecursion, list_any}
use Rattle.prover_steps.specs.Clashing.{Held, is_same_held}
use Rattle.prover_steps.specs.Searching.{put_in, put_all_in, held_without}
use Rattle.prover_steps.proofs.Lists.{all_so}

module _ (test : Held → Bool) where
  hits : Held → ℕ
  hits h = if test h then 1 else 0

  kept_length : (h : Held) (hs : List Held) → length (filter test (h ∷ hs)) ≡ hits h + length (filter test hs)
  unfolding hits
  kept_length h hs = by (test h)
    where
      by : (b : Bool) → length (if b then h ∷ filter test hs else filter test hs) ≡ (if b then 1 else 0) + length (filter test hs)
      by true = omega arith
      by false = omega arith

  pub kept_fewer : (hs : List Held) → length (filter test hs) ≤ length hs
  kept_fewer [] = omega arith
  kept_fewer (h ∷ hs) = by (test h) (kept_fewer hs)
    where
      by : (b : Bool) → length (filter test hs) ≤ length hs → length (if b then h ∷ filter test hs else filter test hs) ≤ suc (length hs)
      by true rest = omega (arith, rest)
      by false rest = omega (arith, rest)

  put_kept : (h : Held) (hs : List Held) → length (filter test (put_in h hs)) ≡ hits h + length (filter test hs)
  put_kept h [] = kept_length h []
  put_kept h (k ∷ ks) = by (put_kept h ks) (nat_lt h.number k.number)
    where
      by : length (filter test (put_in h ks)) ≡ hits h + length (filter test ks)
          → (b : Bool) → length (filter test (if b then h ∷ k ∷ ks else k ∷ put_in h ks)) ≡ hits h + length (filter test (k ∷ ks))
      by rest true = kept_length h (k ∷ ks)
      by rest false = omega (arith, kept_length k (put_in h ks), rest, kept_length k ks)

  pub put_all_kept : (hs ks : List Held) → length (filter test (put_all_in hs ks)) ≡ length (filter test hs) + length (filter test ks)
  put_all_kept [] ks = omega arith
  put_all_kept (h ∷ hs) ks = omega (arith, put_kept h (put_all_in hs ks), put_all_kept hs ks, kept_length h hs)

-- whether one passes a test
any_kept : (test want : Held → Bool) (hs : List Held) → list_any want (filter test hs) ≡ list_any (λ h. test h && want h) hs
any_kept test want [] = refl
any_kept test want (h ∷ hs) = by (test h) (any_kept test want hs)
  where
    by : (b : Bool) → list_any want (filter test hs) ≡ list_any (λ h. test h && want h) hs
        → list_any want (if b then h ∷ filter test hs else filter test hs) ≡ ((b && want h) || list_any (λ h. test h && want h) hs)
    by true e = ap (λ b. want h || b) e
    by false e = e

any_put : (want : Held → Bool) (h : Held) (hs : List Held) → list_any want (put_in h hs) ≡ (want h || list_any want hs)
any_put want h [] = refl
any_put want h (k ∷ ks) = by (nat_lt h.number k.number) (any_put want h ks)
  where
    turned : (a b c : Bool) → (a || (b || c)) ≡ (b || (a || c))
    turned true true c = refl
    turned true false c = refl
    turned false b c = refl

    by : (b : Bool) → list_any want (put_in h ks) ≡ (want h || list_any want ks) → list_any want (if b then h ∷ k ∷ ks else k ∷ put_in h ks) ≡ (want h || (want k || list_any want ks))
    by true e = refl
    by false e = ap (λ b. want k || b) e ∙ turned (want k) (want h) (list_any want ks)

-- of the clauses that are held, those that pass the test are gone
module _ (test : Held → Bool) where
  IsGone : List Held → Held → Type 0
  IsGone gone h = test h ≡ true → list_any (is_same_held h) gone ≡ true

  gone_self : (h : Held) (hs : List Held) → IsGone (filter test (put_in h hs)) h
  unfolding IsGone
  gone_self h hs e =
      any_kept test (is_same_held h) (put_in h hs) ∙ any_put (λ k. test k && is_same_held h k) h hs
      ∙ or_left _ _ (and_from (test h) (is_same_held h h) e (eq-eqb h.number h.number refl))

  gone_more : (k h : Held) (hs : List Held) → IsGone (filter test hs) k → IsGone (filter test (put_in h hs)) k
  unfolding IsGone
  gone_more k h hs gone e =
      any_kept test (is_same_held k) (put_in h hs) ∙ any_put (λ j. test j && is_same_held k j) h hs
      ∙ or_right (test h && is_same_held k h) _ (sym (any_kept test (is_same_held k) hs) ∙ gone e)

  gone_behind : (k h : Held) (hs : List Held) → IsGone (filter test hs) k → IsGone (filter test (h ∷ hs)) k
  unfolding IsGone
  gone_behind k h hs gone e =
      any_kept test (is_same_held k) (h ∷ hs) ∙ or_right (test h && is_same_held k h) _ (sym (any_kept test (is_same_held k) hs) ∙ gone e)

  gone_first : (h : Held) (hs : List Held) → IsGone (filter test (h ∷ hs)) h
  unfolding IsGone
  gone_first h hs e =
      any_kept test (is_same_held h) (h ∷ hs) ∙ or_left _ _ (and_from (test h) (is_same_held h h) e (eq-eqb h.number h.number refl))

  gone_all : (ks : List Held) → AllByRecursion (IsGone (filter test ks)) ks
  gone_all [] = tt
  gone_all (k ∷ ks) = (gone_first k ks, all_so (IsGone (filter test ks)) (IsGone (filter test (k ∷ ks))) (λ h gone. gone_behind h k ks gone) ks (gone_all ks))

  gone_firsts : (hs ks : List Held) → AllByRecursion (IsGone (filter test (put_all_in hs ks))) hs
  gone_firsts [] ks = tt
  gone_firsts (h ∷ hs) ks = (
    gone_self h (put_all_in hs ks),
    all_so (IsGone (filter test (put_all_in hs ks))) (IsGone (filter test (put_in h (put_all_in hs ks)))) (λ k gone. gone_more k h (put_all_in hs ks) gone) hs (gone_firsts hs ks),
  )

  gone_seconds : (hs ks : List Held) → AllByRecursion (IsGone (filter test (put_all_in hs ks))) ks
  gone_seconds [] ks = gone_all ks
  gone_seconds (h ∷ hs) ks =
      all_so (IsGone (filter test (put_all_in hs ks))) (IsGone (filter test (put_in h (put_all_in hs ks)))) (λ k gone. gone_more k h (put_all_in hs ks) gone) ks (gone_seconds hs ks)

  without_fewer : (gone hs : List Held) → AllByRecursion (IsGone gone) hs → length (held_without gone hs) + length (filter test hs) ≤ length hs
  unfolding IsGone
  without_fewer gone [] all = omega arith
  without_fewer gone (h ∷ hs) all = by (test h) (list_any (is_same_held h) gone) all.0 (without_fewer gone hs all.1)
    where
      by : (t g : Bool) → (t ≡ true → g ≡ true) → length (held_without gone hs) + length (filter test hs) ≤ length hs
          → length (if not g then h ∷ held_without gone hs else held_without gone hs) + length (if t then h ∷ filter test hs else filter test hs) ≤ suc (length hs)
      by true true is rest = omega (arith, rest)
      by true false is rest = let e = is refl in cc
      by false true is rest = omega (arith, rest)
      by false false is rest = omega (arith, rest)

  -- as many as are gone, or more, are held no more
  pub gone_fewer : (hs ks : List Held)
      → length (filter test (put_all_in hs ks)) + (length (held_without (filter test (put_all_in hs ks)) hs) + length (held_without (filter test (put_all_in hs ks)) ks)) ≤ length hs + length ks
  gone_fewer hs ks =
      let gone = filter test (put_all_in hs ks) in
      omega (arith, put_all_kept test hs ks, without_fewer gone hs (gone_firsts hs ks), without_fewer gone ks (gone_seconds hs ks))
