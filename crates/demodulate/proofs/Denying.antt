-- The first unit that denies a literal, among short clauses that are found by their atoms, and of two sets.
use Rattle.std.proofs.Common.{◌≡◌, ℕ, ◌<◌, ◌≤◌, Bool, true, false, not, ◌&&◌, nat_lt, min, if◌then◌else◌, is_some, List, [], ◌∷◌, Option, Some, None, filter, refl, sym, ap, ◌∙◌, ltb-true, ltb-false, arith}
use Rattle.std.specs.List.{AllByRecursion}
use Rattle.clause_index.specs.Entries.{is_short, is_short_above}
use Rattle.demodulate.specs.Steps.{lesser}
use Rattle.derivation.specs.Later.{is_unit}
use Rattle.derivation.specs.Places.{same_sign, atom_at, has_literal}
use Rattle.fol_core.specs.Literals.{Lit, ClauseTree}
use Rattle.prover_steps.proofs.Lists.{all_so}
use Rattle.prover_steps.proofs.Rising.{put_each}
use Rattle.prover_steps.specs.Clashing.{Held}
use Rattle.prover_steps.specs.HeldOrder.{numbers_of, IsRising}
use Rattle.prover_steps.specs.Searching.{put_in, put_all_in}
use Rattle.prover_steps.specs.Shortening.{denies, first_denying}
use Rattle.unifiers.specs.Matching.{matched}

-- numbers none of which is below those before it
abbrev IsGrowing : List ℕ → Type 0
IsGrowing [] = Unit {0}
IsGrowing (n ∷ ns) = AllByRecursion (λ m. n ≤ m) ns × IsGrowing ns

grows : (ns : List ℕ) → IsRising ns → IsGrowing ns
grows [] rises = tt
grows (n ∷ ns) rises = (all_so (λ m. n < m) (λ m. n ≤ m) (λ m less. omega (arith, less)) ns rises.0, grows ns rises.1)

from_lower : (n k : ℕ) (ns : List ℕ) → n ≤ k → AllByRecursion (λ m. k ≤ m) ns → AllByRecursion (λ m. n ≤ m) ns
from_lower n k ns le all = all_so (λ m. k ≤ m) (λ m. n ≤ m) (λ m more. omega (arith, le, more)) ns all

put_grows : (h : Held) (hs : List Held) → IsGrowing (numbers_of hs) → IsGrowing (numbers_of (put_in h hs))
put_grows h [] grown = (tt, tt)
put_grows h (k ∷ ks) grown = by (nat_lt h.number k.number) refl (put_grows h ks grown.1)
  where
    by : (b : Bool) → nat_lt h.number k.number ≡ b → IsGrowing (numbers_of (put_in h ks)) → IsGrowing (numbers_of (if b then h ∷ k ∷ ks else k ∷ put_in h ks))
    by true e rest =
        let below = ltb-true h.number k.number e in
        ((omega (arith, below), from_lower h.number k.number (numbers_of ks) (omega (arith, below)) grown.0), grown)
    by false e rest = (put_each (λ m. k.number ≤ m) h ks (ltb-false h.number k.number e) grown.0, rest)

put_all_grows : (hs ks : List Held) → IsGrowing (numbers_of ks) → IsGrowing (numbers_of (put_all_in hs ks))
put_all_grows [] ks grown = grown
put_all_grows (h ∷ hs) ks grown = put_grows h (put_all_in hs ks) (put_all_grows hs ks grown)

-- the lesser of numbers
lesser_none : (o : Option ℕ) → lesser o None ≡ o
lesser_none None = refl
lesser_none (Some n) = refl

min_first : (n m : ℕ) → n ≤ m → min n m ≡ n
min_first n m h = omega (arith, h)

min_second : (n m : ℕ) → m ≤ n → min n m ≡ m
min_second n m h = omega (arith, h)

min_regroups : (n m k : ℕ) → min n (min m k) ≡ min (min n m) k
min_regroups n m k = omega arith

lesser_regroups : (o p q : Option ℕ) → lesser o (lesser p q) ≡ lesser (lesser o p) q
lesser_regroups None p q = refl
lesser_regroups (Some n) None q = refl
lesser_regroups (Some n) (Some m) None = refl
lesser_regroups (Some n) (Some m) (Some k) = ap Some (min_regroups n m k)

module _ (l : Lit) where
  abbrev first : List Held → Option ℕ
  first hs = first_denying hs l

  abbrev one : Held → Option ℕ
  one h = if denies h l then Some h.number else None

  least_first : (n : ℕ) (hs : List Held) → AllByRecursion (λ m. n ≤ m) (numbers_of hs) → lesser (Some n) (first hs) ≡ Some n
  least_first n [] all = refl
  least_first n (h ∷ hs) all = by (denies h l) (least_first n hs all.1)
    where
      by : (b : Bool) → lesser (Some n) (first hs) ≡ Some n → lesser (Some n) (if b then Some h.number else first hs) ≡ Some n
      by true rest = ap Some (min_first n h.number all.0)
      by false rest = rest

  put_lesser : (h : Held) (hs : List Held) → IsGrowing (numbers_of hs) → first (put_in h hs) ≡ lesser (one h) (first hs)
  put_lesser h [] grown = sym (lesser_none (one h))
  put_lesser h (k ∷ ks) grown = by (nat_lt h.number k.number) refl (put_lesser h ks grown.1)
    where
      front : (b : Bool) → h.number < k.number → (if b then Some h.number else first (k ∷ ks)) ≡ lesser (if b then Some h.number else None) (first (k ∷ ks))
      front true below = sym (least_first h.number (k ∷ ks) (omega (arith, below), from_lower h.number k.number (numbers_of ks) (omega (arith, below)) grown.0))
      front false below = refl

      least : (b : Bool) → k.number ≤ h.number → Some k.number ≡ lesser (if b then Some h.number else None) (Some k.number)
      least true reaches = ap Some (sym (min_second h.number k.number reaches))
      least false reaches = refl

      behind : (b : Bool) → k.number ≤ h.number → first (put_in h ks) ≡ lesser (one h) (first ks)
          → (if b then Some k.number else first (put_in h ks)) ≡ lesser (one h) (if b then Some k.number else first ks)
      behind true reaches rest = least (denies h l) reaches
      behind false reaches rest = rest

      by : (b : Bool) → nat_lt h.number k.number ≡ b → first (put_in h ks) ≡ lesser (one h) (first ks) → first (if b then h ∷ k ∷ ks else k ∷ put_in h ks) ≡ lesser (one h) (first (k ∷ ks))
      by true e rest = front (denies h l) (ltb-true h.number k.number e)
      by false e rest = behind (denies k l) (ltb-false h.number k.number e) rest

  all_lesser : (ws us : List Held) → IsGrowing (numbers_of ws) → IsGrowing (numbers_of us) → first (put_all_in ws us) ≡ lesser (first ws) (first us)
  all_lesser [] us grown more = refl
  all_lesser (w ∷ ws) us grown more =
      put_lesser w (put_all_in ws us) (put_all_grows ws us more) ∙ ap (lesser (one w)) (all_lesser ws us grown.1 more) ∙ lesser_regroups (one w) (first ws) (first us)
      ∙ ap (λ o. lesser o (first us)) (by (denies w l))
    where
      by : (b : Bool) → lesser (if b then Some w.number else None) (first ws) ≡ (if b then Some w.number else first ws)
      by true = least_first w.number ws grown.0
      by false = refl

  -- of two sets
  pub denied_by_either : (ws us : List Held) → IsRising (numbers_of ws) → IsRising (numbers_of us) → lesser (first ws) (first us) ≡ first (put_all_in ws us)
  denied_by_either ws us rises more = sym (all_lesser ws us (grows (numbers_of ws) rises) (grows (numbers_of us) more))

  -- a unit that denies a literal is short, has the other sign, and its atom as an instance
  begins_so : (c : ClauseTree) → (is_unit c && (has_literal (not l.positive) c 0 && is_some (matched (atom_at c 0) l.atom []))) ≡ true
      → ((is_short c && not (has_literal (not (not l.positive)) c 0)) && is_some (matched (atom_at c 0) l.atom [])) ≡ true
  begins_so [] e = cc
  begins_so (k ∷ []) e = by l.positive k.positive (is_some (matched k.atom l.atom [])) e
    where
      by : (p q m : Bool) → (same_sign (not p) q && m) ≡ true → (not (same_sign (not (not p)) q) && m) ≡ true
      by true true m f = cc
      by true false m f = f
      by false true m f = f
      by false false m f = cc
  begins_so (k ∷ j ∷ c) e = cc

  pub denied_among : (hs : List Held) → first (filter (is_short_above (not l.positive) l.atom) hs) ≡ first hs
  denied_among [] = refl
  denied_among (h ∷ hs) = by (is_short_above (not l.positive) l.atom h) refl (denies h l) refl (denied_among hs)
    where
      found : List Held
      found = filter (is_short_above (not l.positive) l.atom) hs

      by : (b : Bool) → is_short_above (not l.positive) l.atom h ≡ b → (d : Bool) → denies h l ≡ d → first found ≡ first hs
          → first (if b then h ∷ found else found) ≡ (if denies h l then Some h.number else first hs)
      by true e d f rest = ap (λ o. if denies h l then Some h.number else o) rest
      by false e true f rest = let same : true ≡ false = sym (begins_so h.clause f) ∙ e in cc
      by false e false f rest = rest ∙ sym (ap (λ b. if b then Some h.number else first hs) f)
