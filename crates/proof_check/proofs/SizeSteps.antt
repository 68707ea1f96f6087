-- How large conclusions are that aren't built.
use Rattle.std.proofs.Common.{◌≡◌, ℕ, suc, ◌+◌, ◌-◌, ◌<◌, Bool, true, false, nat_eq, nat_lt, nat_le, refl, sym, ap, ◌∙◌, arith}
use Rattle.std.proofs.lemmas.Bool.{eq-eqb, eqb-true, ne_eqb, eqb-false, le-leb, and_from}
use Rattle.clause_limits.specs.Sizes.{clause_size, clause_depth}
use Rattle.clause_limits.proofs.Numbered.{numbered_size, numbered_depth}
use Rattle.derivation.specs.Lines.{ContentTree, formula, clause, IsClause}
use Rattle.fol_core.specs.Literals.{ClauseTree}
use Rattle.fol_core.specs.Renumbered.{renumbered}
use Rattle.fol_core.specs.Sizes.{saturated}
use Rattle.proof_check.specs.Sized.{is_as_large, is_as_deep, may_be}

-- tests that tell the same
same_tests : (a b p q : ℕ) → (a ≡ b → p ≡ q) → (p ≡ q → a ≡ b) → nat_eq a b ≡ nat_eq p q
same_tests a b p q to from = by (nat_eq a b) refl
  where
    by : (t : Bool) → nat_eq a b ≡ t → nat_eq a b ≡ nat_eq p q
    by true e = e ∙ sym (eq-eqb p q (to (eqb-true a b e)))
    by false e = e ∙ sym (ne_eqb p q (λ h. eqb-false a b e (from h)))

-- what is counted of a clause tells whether it is as large, and as deep
module _ (c d : ClauseTree) (n : ℕ) where
  pub as_many : (left : ℕ) → n ≡ saturated (clause_size d) → left + clause_size c ≡ n → nat_eq left 0 ≡ is_as_large c d
  as_many left is made =
      same_tests left 0 (saturated (clause_size c)) (saturated (clause_size d)) (λ e. omega (arith, is, made, e)) (λ e. omega (arith, is, made, e))

  pub more : n ≡ saturated (clause_size d) → n < clause_size c → nat_eq n 18446744073709551615 ≡ is_as_large c d
  more is lt =
      same_tests n 18446744073709551615 (saturated (clause_size c)) (saturated (clause_size d)) (λ e. omega (arith, is, lt, e)) (λ e. omega (arith, is, lt, e))

  pub none_deep : n ≡ saturated (clause_depth d) → n ≡ 0 → is_as_deep c d ≡ true
  none_deep is e = le-leb (saturated (clause_depth d)) (clause_depth c) (omega (arith, is, e))

  pub as_deep : n ≡ saturated (clause_depth d) → (n ≡ 0 → ⊥) → nat_lt (n - 1) (clause_depth c) ≡ is_as_deep c d
  as_deep is some = let e : suc (n - 1) ≡ saturated (clause_depth d) = omega (arith, is, some) in ap (λ k. nat_le k (clause_depth c)) e

-- a content that is the clause, but for its variables, has its size
pub same_size : (content : ContentTree) (d : ClauseTree) → IsClause content d → may_be content d ≡ true
same_size (formula f) d is = absurd is
same_size (clause c) d same =
    let sizes : clause_size c ≡ clause_size d = sym (numbered_size c) ∙ ap clause_size same ∙ numbered_size d in
    let depths : clause_depth c ≡ clause_depth d = sym (numbered_depth c) ∙ ap clause_depth same ∙ numbered_depth d in
    and_from (is_as_large c d) (is_as_deep c d) (eq-eqb (saturated (clause_size c)) (saturated (clause_size d)) (ap saturated sizes))
    (le-leb (saturated (clause_depth d)) (clause_depth c) (omega (arith, depths)))
