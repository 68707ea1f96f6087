-- Positive literals, counted.
use Rattle.std.proofs.Common.{◌≡◌, ℕ, zero, suc, ◌+◌, Bool, true, false, cond, if◌then◌else◌, nat_le, List, [], ◌∷◌, length, map, filter, refl, sym, ap, ◌∙◌, arith}
use Rattle.std.specs.List.{count_by}
use Rattle.std.proofs.lemmas.List.Recursion.{is_count_by}
use Rattle.fol_core.specs.ClauseView.{literal_of}
use Rattle.fol_core.specs.Literals.{ClauseTree}
use Rattle.fol_core.specs.declared.clause.Literal.{Literal}
use Rattle.derivation.specs.Places.{has_literal}
use Rattle.prover_steps.specs.Clashing.{places_from, places_with}
use Rattle.prover_steps.specs.Conclusions.{is_horn}

places_on : (test : ℕ → Bool) (n : ℕ) (c : ClauseTree) → length (filter test (places_from (suc n) c)) ≡ length (filter (λ k. test (suc k)) (places_from n c))
places_on test n [] = refl
places_on test n (l ∷ c) = by (test (suc n)) (places_on test (suc n) c)
  where
    by : (b : Bool) → length (filter test (places_from (suc (suc n)) c)) ≡ length (filter (λ k. test (suc k)) (places_from (suc n) c))
        → length (if b then suc n ∷ filter test (places_from (suc (suc n)) c) else filter test (places_from (suc (suc n)) c))
        ≡ length (if b then n ∷ filter (λ k. test (suc k)) (places_from (suc n) c) else filter (λ k. test (suc k)) (places_from (suc n) c))
    by true rest = ap suc rest
    by false rest = rest

positive_step : (l : Literal) (ls : List Literal)
    → length (places_with true (map literal_of (l ∷ ls))) ≡ cond l.positive (1 + length (places_with true (map literal_of ls))) (length (places_with true (map literal_of ls)))
positive_step l ls = by l.positive (places_on (has_literal true (map literal_of (l ∷ ls))) 0 (map literal_of ls))
  where
    by : (b : Bool) → length (filter (has_literal true (map literal_of (l ∷ ls))) (places_from 1 (map literal_of ls))) ≡ length (places_with true (map literal_of ls))
        → length (if b then zero ∷ filter (has_literal true (map literal_of (l ∷ ls))) (places_from 1 (map literal_of ls)) else filter (has_literal true (map literal_of (l ∷ ls))) (places_from 1 (map literal_of ls)))
        ≡ cond b (1 + length (places_with true (map literal_of ls))) (length (places_with true (map literal_of ls)))
    by true rest = omega (arith, rest)
    by false rest = rest

positive_counted : (ls : List Literal) → length (places_with true (map literal_of ls)) ≡ count_by (λ (l : Literal). l.positive) ls
positive_counted ls = is_count_by (λ (ks : List Literal). length (places_with true (map literal_of ks))) (λ (l : Literal). l.positive) refl positive_step ls

pub few_positive : (ls : List Literal) (n : ℕ) → n ≡ count_by (λ (l : Literal). l.positive) ls → nat_le n 1 ≡ is_horn (map literal_of ls)
few_positive ls n is = ap (λ m. nat_le m 1) (is ∙ sym (positive_counted ls))
