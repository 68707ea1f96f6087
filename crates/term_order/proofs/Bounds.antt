-- The least number above those of a list.
use Rattle.std.proofs.Common.{ℕ, zero, suc, ◌+◌, ◌<◌, ◌≤◌, List, [], ◌∷◌, length, slice_index_or, max, drop, take, ◌-◌, subst, sym, arith}
use Rattle.std.proofs.lemmas.List.{take_rest}
use Rattle.term_bank.specs.Cells.{AreNumbersBelow, numbers}
use Rattle.term_bank.specs.declared.id.TermId.{TermId}

abbrev pub bound : List TermId → ℕ
bound [] = 0
bound (k ∷ ks) = max (k.0 + 1) (bound ks)

pub bound_at : (ks : List TermId) (i : ℕ) (d : TermId) → i < length ks → (slice_index_or ks i d).0 < bound ks
bound_at [] i d h = let none : ⊥ = omega (arith, h) in elim none [ ]
bound_at (k ∷ ks) zero d h = omega arith
bound_at (k ∷ ks) (suc i) d h = let inner : i < length ks = omega (arith, h) in let there = bound_at ks i d inner in omega (arith, there)

pub bound_below : (n : ℕ) (ks : List TermId) → AreNumbersBelow n (numbers ks) → bound ks ≤ n
bound_below n [] h = omega arith
bound_below n (k ∷ ks) h = let first = h.0 in let others = bound_below n ks h.1 in omega (arith, first, others)

pub below_drop : (n : ℕ) (ks : List TermId) (i : ℕ) → AreNumbersBelow n (numbers ks) → AreNumbersBelow n (numbers (drop i ks))
below_drop n ks zero h = h
below_drop n [] (suc i) h = tt
below_drop n (k ∷ ks) (suc i) h = below_drop n ks i h.1

-- what is behind a place
pub below_rest : (n : ℕ) (ks : List TermId) (i : ℕ) → AreNumbersBelow n (numbers ks) → AreNumbersBelow n (numbers (take (length ks - i) (drop i ks)))
below_rest n ks i h = subst (λ (js : List TermId). AreNumbersBelow n (numbers js)) (sym (take_rest ks i)) (below_drop n ks i h)

pub bound_rest : (n : ℕ) (ks : List TermId) (i : ℕ) → AreNumbersBelow n (numbers ks) → bound (take (length ks - i) (drop i ks)) ≤ n
bound_rest n ks i h = bound_below n (take (length ks - i) (drop i ks)) (below_rest n ks i h)
