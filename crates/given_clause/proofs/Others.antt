-- Those of the clauses that are held that pass a test, by those that wait and those in use.
use Rattle.std.proofs.Common.{◌≡◌, ◌<◌, Bool, true, false, nat_lt, if◌then◌else◌, List, [], ◌∷◌, filter, refl, sym, ap, ◌∙◌, ltb-true, arith}
use Rattle.prover_steps.proofs.Rising.{above_lower, put_first, put_all_rises, kept_each, kept_rises, merges}
use Rattle.prover_steps.specs.Clashing.{Held}
use Rattle.prover_steps.specs.HeldOrder.{numbers_of, IsRising, ShareNone, IsInOrder, merged_held}
use Rattle.prover_steps.specs.Searching.{SearchState, put_in, put_all_in, all_held}

module _ (test : Held → Bool) where
  kept_put : (h : Held) (hs : List Held) → IsRising (numbers_of hs) → filter test (put_in h hs) ≡ (if test h then put_in h (filter test hs) else filter test hs)
  kept_put h [] rises = by (test h)
    where
      by : (b : Bool) → (if b then h ∷ [] else []) ≡ (if b then put_in h [] else [])
      by true = refl
      by false = refl
  kept_put h (k ∷ ks) rises = by (nat_lt h.number k.number) refl (kept_put h ks rises.1)
    where
      front : (b : Bool) → h.number < k.number → (if b then h ∷ filter test (k ∷ ks) else filter test (k ∷ ks)) ≡ (if b then put_in h (filter test (k ∷ ks)) else filter test (k ∷ ks))
      front true below = sym (put_first h (filter test (k ∷ ks)) (kept_each (λ n. h.number < n) test (k ∷ ks) (below, above_lower h.number k.number (numbers_of ks) (omega (arith, below)) rises.0)))
      front false below = refl

      behind : (a b : Bool) → nat_lt h.number k.number ≡ false → filter test (put_in h ks) ≡ (if b then put_in h (filter test ks) else filter test ks)
          → (if a then k ∷ filter test (put_in h ks) else filter test (put_in h ks)) ≡ (if b then put_in h (if a then k ∷ filter test ks else filter test ks) else (if a then k ∷ filter test ks else filter test ks))
      behind true true e rest = ap (λ js. k ∷ js) rest ∙ sym (ap (λ c. if c then h ∷ k ∷ filter test ks else k ∷ put_in h (filter test ks)) e)
      behind true false e rest = ap (λ js. k ∷ js) rest
      behind false true e rest = rest
      behind false false e rest = rest

      by : (c : Bool) → nat_lt h.number k.number ≡ c → filter test (put_in h ks) ≡ (if test h then put_in h (filter test ks) else filter test ks)
          → filter test (if c then h ∷ k ∷ ks else k ∷ put_in h ks) ≡ (if test h then put_in h (filter test (k ∷ ks)) else filter test (k ∷ ks))
      by true e rest = front (test h) (ltb-true h.number k.number e)
      by false e rest = behind (test k) (test h) e rest

  kept_all : (ws us : List Held) → IsRising (numbers_of ws) → IsRising (numbers_of us) → ShareNone (numbers_of ws) (numbers_of us) → filter test (put_all_in ws us) ≡ put_all_in (filter test ws) (filter test us)
  kept_all [] us rises more none = refl
  kept_all (w ∷ ws) us rises more none =
      kept_put w (put_all_in ws us) (put_all_rises ws us rises.1 more none.1) ∙ ap (λ hs. if test w then put_in w hs else hs) (kept_all ws us rises.1 more none.1) ∙ by (test w)
    where
      by : (b : Bool) → (if b then put_in w (put_all_in (filter test ws) (filter test us)) else put_all_in (filter test ws) (filter test us)) ≡ put_all_in (if b then w ∷ filter test ws else filter test ws) (filter test us)
      by true = refl
      by false = refl

  pub kept_of_both : (s : SearchState) → IsInOrder s → merged_held (filter test s.waiting) (filter test s.usable) ≡ filter test (all_held s)
  kept_of_both s order =
      sym (kept_all s.waiting s.usable order.waiting_rise.rising order.usable_rise.rising order.held_once
      ∙ merges (filter test s.waiting) (filter test s.usable) (kept_rises test s.waiting order.waiting_rise.rising) (kept_rises test s.usable order.usable_rise.rising))
