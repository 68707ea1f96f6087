-- Terms of a bank by their nodes.
use Rattle.std.proofs.Common.{◌≡◌, ℕ, ◌<◌, false, List, [], ◌∷◌, length, map, slice_index_or, refl, sym, ap, ◌∙◌, subst, arith}
use Rattle.std.proofs.lemmas.Bool.{eq-eqb}
use Rattle.derivation.specs.Equations.{is_equation}
use Rattle.derivation.specs.Sides.{AreSides}
use Rattle.fol_core.specs.Literals.{equality}
use Rattle.fol_core.specs.Tree.{Tree, app, trees_of}
use Rattle.shared_clauses.specs.Nodes.{AreNodeSides, HasArguments}
use Rattle.term_bank.specs.Bank.{tree_at}
use Rattle.term_bank.specs.Cells.{AreNumbersBelow, numbers}
use Rattle.term_bank.specs.declared.id.TermId.{TermId}
use Rattle.term_bank.proofs.Building.{below_more}

-- other arguments than two
pub few_sides : (bank : List Tree) (r : ℕ) (ks : List TermId) (t : Tree) → (length ks ≡ 2 → ⊥) → app r (trees_of (map (λ k. tree_at bank k.0) ks)) ≡ t → is_equation t ≡ false
few_sides bank r ks t h e = sym (ap is_equation e) ∙ by ks h
  where
    by : (ks : List TermId) → (length ks ≡ 2 → ⊥) → is_equation (app r (trees_of (map (λ k. tree_at bank k.0) ks))) ≡ false
    by [] h = refl
    by (k ∷ []) h = refl
    by (k ∷ j ∷ []) h = absurd (h refl)
    by (k ∷ j ∷ i ∷ ks) h = refl

pub node_sides : (bank : List Tree) (n r : ℕ) (ks : List TermId) (d : TermId) → length ks ≡ 2 → r ≡ equality → n < length bank → app r (trees_of (map (λ k. tree_at bank k.0) ks)) ≡ tree_at bank n → AreNumbersBelow n (numbers ks)
    → AreNodeSides bank n (slice_index_or ks 0 d).0 (slice_index_or ks 1 d).0
node_sides bank n r [] d h e lt is below = absurd (omega (arith, h))
node_sides bank n r (k ∷ []) d h e lt is below = absurd (omega (arith, h))
node_sides bank n r (k ∷ j ∷ i ∷ ks) d h e lt is below = absurd (omega (arith, h))
node_sides bank n r (k ∷ j ∷ []) d h e lt is below =
    let b = below in
    record {
      sides = subst (λ (t : Tree). AreSides t (tree_at bank k.0) (tree_at bank j.0)) is (record { equal = eq-eqb r equality e; left_is = refl; right_is = refl });
      left = omega (arith, b.0, lt);
      right = omega (arith, b.1.0, lt);
    }

pub has_arguments : (bank : List Tree) (n f g : ℕ) (ks : List TermId) → f ≡ g → n < length bank → app g (trees_of (map (λ k. tree_at bank k.0) ks)) ≡ tree_at bank n → AreNumbersBelow n (numbers ks) → HasArguments bank n f ks
has_arguments bank n f g ks e lt is below = record {
  tree = ap (λ h. app h (trees_of (map (λ (k : TermId). tree_at bank k.0) ks))) e ∙ is;
  within = below_more n (length bank) (omega (arith, lt)) (numbers ks) below;
}
