-- The parents of a word.
use Rattle.std.proofs.Common.{◌≡◌, ℕ, false, List, [], ◌∷◌, length, get_or, refl, ap, ap₂, sym, arith}
use Rattle.std.specs.Borrow.{Bor}
use Rattle.fol_core.specs.Literals.{ClauseTree}
use Rattle.derivation.specs.Lines.{FirstWord, assumed, wanted, clausified, denied, copied, resolved, factored, paramodulated, xx_resolved, instantiated}
use Rattle.derivation.specs.Words.{copy_rule, factor_rule, para_rule, xx_rule}
use Rattle.inference.specs.Judged.{rule_by}
use Rattle.inference.specs.Lent.{lent_clauses}
use Rattle.derivation.proofs.Conclusions.{IsNatural, copy_natural}
use Rattle.derivation.proofs.Lawful.{IsLawfulRule, copy_lawful}
use Rattle.derivation.proofs.Rows.{word_lawful}

pub one_parent : (ps : List (Bor ClauseTree)) (p : Bor ClauseTree) → length ps ≡ 1 → p ≡ get_or ps 0 p → lent_clauses ps ≡ p.now ∷ []
one_parent [] p h at = absurd (omega (arith, h))
one_parent (q ∷ []) p h at = ap (λ (b : Bor ClauseTree). b.now ∷ []) (sym at)
one_parent (q ∷ r ∷ ps) p h at = absurd (omega (arith, h))

pub two_parents : (ps : List (Bor ClauseTree)) (p q : Bor ClauseTree) → length ps ≡ 2 → p ≡ get_or ps 0 p → q ≡ get_or ps 1 q → lent_clauses ps ≡ p.now ∷ q.now ∷ []
two_parents [] p q h at was = absurd (omega (arith, h))
two_parents (a ∷ []) p q h at was = absurd (omega (arith, h))
two_parents (a ∷ b ∷ []) p q h at was = ap₂ (λ (x y : Bor ClauseTree). x.now ∷ y.now ∷ []) (sym at) (sym was)
two_parents (a ∷ b ∷ c ∷ ps) p q h at was = absurd (omega (arith, h))

-- with another number of them nothing fits
pub copy_alone : (ps : List (Bor ClauseTree)) → (length ps ≡ 1 → ⊥) → copy_rule.fits (lent_clauses ps) ≡ false
copy_alone [] h = refl
copy_alone (p ∷ []) h = absurd (h refl)
copy_alone (p ∷ q ∷ ps) h = refl

pub factor_alone : (a b : ℕ) (ps : List (Bor ClauseTree)) → (length ps ≡ 1 → ⊥) → (factor_rule a b).fits (lent_clauses ps) ≡ false
factor_alone a b [] h = refl
factor_alone a b (p ∷ []) h = absurd (h refl)
factor_alone a b (p ∷ q ∷ ps) h = refl

pub xx_alone : (a : ℕ) (ps : List (Bor ClauseTree)) → (length ps ≡ 1 → ⊥) → (xx_rule a).fits (lent_clauses ps) ≡ false
xx_alone a [] h = refl
xx_alone a (p ∷ []) h = absurd (h refl)
xx_alone a (p ∷ q ∷ ps) h = refl

pub para_both : (a n b : ℕ) (path : List ℕ) (ps : List (Bor ClauseTree)) → (length ps ≡ 2 → ⊥) → (para_rule a n b path).fits (lent_clauses ps) ≡ false
para_both a n b path [] h = refl
para_both a n b path (p ∷ []) h = refl
para_both a n b path (p ∷ q ∷ []) h = absurd (h refl)
para_both a n b path (p ∷ q ∷ r ∷ ps) h = refl

-- each word's rule is lawful
pub lawful_by : (w : FirstWord) → IsLawfulRule (rule_by w) × IsNatural (rule_by w)
lawful_by assumed = (copy_lawful, copy_natural)
lawful_by wanted = (copy_lawful, copy_natural)
lawful_by (clausified n) = (copy_lawful, copy_natural)
lawful_by (denied n) = (copy_lawful, copy_natural)
lawful_by (copied n) = (copy_lawful, copy_natural)
lawful_by (resolved n k) = word_lawful (resolved n k) _ refl
lawful_by (factored n a b) = word_lawful (factored n a b) _ refl
lawful_by (paramodulated n a side m b path) = word_lawful (paramodulated n a side m b path) _ refl
lawful_by (xx_resolved n a) = word_lawful (xx_resolved n a) _ refl
lawful_by (instantiated n es) = (copy_lawful, copy_natural)
