-- Interleaving renames apart.
use Rattle.std.proofs.Common.{◌≡◌, ℕ, suc, ◌+◌, ◌*◌, ◌/◌, ◌%◌, ◌<◌, ◌≤◌, List, [], ◌∷◌, map, length, refl, sym, ap, ap₂, ◌∙◌, arith}
use Rattle.std.proofs.lemmas.Nat.{div-mul-add, mod-mul-add}
use Rattle.fol_core.specs.Literals.{ClauseTree}
use Rattle.fol_core.specs.Substitutions.{Substitution}
use Rattle.substitutions.proofs.Composing.{substitute_twice_clause, substitute_alike_clause}
use Rattle.substitutions.specs.Apart.{Own, instances, InterleavingIsApart, interleaved}
use Rattle.substitutions.specs.Instances.{substitute_clause, followed}

-- the substitution that does what one for each clause does
back : ℕ → Own → Substitution
back n other y = other (y % n) (y / n)

back_at : (n : ℕ) (other : Own) (k x : ℕ) → k < n → back n other (x * n + k) ≡ other k x
unfolding back
back_at n other k x h = ap₂ other (mod-mul-add x n k h) (div-mul-add x n k h)

apart_from : (n : ℕ) (other : Own) (j : ℕ) (cs : List ClauseTree) → j + length cs ≤ n
    → instances (λ k. other (k + j)) cs ≡ map (substitute_clause (back n other)) (instances (λ k. interleaved n (k + j)) cs)
apart_from n other j [] h = refl
apart_from n other j (c ∷ cs) h = ap₂ (λ d ds. d ∷ ds)
    (substitute_alike_clause (other (0 + j)) (followed (interleaved n (0 + j)) (back n other)) c (λ x i. sym (back_at n other (0 + j) x (omega arith)))
    ∙ sym (substitute_twice_clause (interleaved n (0 + j)) (back n other) c))
    (ap (λ (own : Own). instances own cs) (λ i k. other (moved k i))
    ∙ apart_from n other (suc j) cs (omega arith)
    ∙ ap (λ (own : Own). map (substitute_clause (back n other)) (instances own cs)) (λ i k. interleaved n (sym (moved k) i)))
  where
    moved : (k : ℕ) → suc k + j ≡ k + suc j
    moved k = omega arith

pub interleaving_is_apart : InterleavingIsApart
interleaving_is_apart cs other = (
  back (length cs) other,
  ap (λ (own : Own). instances own cs) (λ i k. other (sym (same k) i)) ∙ apart_from (length cs) other 0 cs (omega arith)
      ∙ ap (λ (own : Own). map (substitute_clause (back (length cs) other)) (instances own cs)) (λ i k. interleaved (length cs) (same k i)),
)
  where
    same : (k : ℕ) → k + 0 ≡ k
    same k = omega arith
