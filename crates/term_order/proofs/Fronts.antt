-- Lists of terms with the same terms at their front.
use Rattle.std.proofs.Common.{◌≡◌, ℕ, zero, suc, ◌+◌, ◌<◌, ◌≤◌, Bool, true, false, refl, List, [], ◌∷◌, ◌++◌, length, take, slice_index_or, sym, ap, ap₂, ◌∙◌, subst, add-one, arith}
use Rattle.std.proofs.Math.Seq.{take-suc}
use Rattle.fol_core.specs.Tree.{Tree, var}
use Rattle.term_bank.specs.Bank.{tree_at}
use Rattle.term_bank.specs.declared.id.TermId.{TermId}
use Rattle.term_order.specs.Compared.{trees_under, AreCommon}
use Rattle.unifiers.specs.Matching.{same_tree}
use Rattle.unifiers.proofs.MatchesFound.{tree_same}

pub under_length : (bank : List Tree) (ks : List TermId) → length (trees_under bank ks) ≡ length ks
under_length bank [] = refl
under_length bank (k ∷ ks) = ap suc (under_length bank ks)

pub under_at : (bank : List Tree) (ks : List TermId) (i : ℕ) (d : TermId) → i < length ks → slice_index_or (trees_under bank ks) i (var 0) ≡ tree_at bank (slice_index_or ks i d).0
under_at bank [] i d h = let none : ⊥ = omega (arith, h) in elim none [ ]
under_at bank (k ∷ ks) zero d h = refl
under_at bank (k ∷ ks) (suc i) d h = let inner : i < length ks = omega (arith, h) in under_at bank ks i d inner

-- so far
pub record AreFronts (bank : List Tree) (ss ts : List TermId) (i : ℕ) : Type 0 where
  pub within : i ≤ length ts
  pub same : take i (trees_under bank ss) ≡ take i (trees_under bank ts)

pub at_first : (bank : List Tree) (ss ts : List TermId) → AreFronts bank ss ts 0
at_first bank ss ts = record { within = omega arith; same = refl }

pub one_more : (bank : List Tree) (ss ts : List TermId) (i : ℕ) (d e : TermId) → AreFronts bank ss ts i → i < length ss → i < length ts
    → tree_at bank (slice_index_or ss i d).0 ≡ tree_at bank (slice_index_or ts i e).0 → AreFronts bank ss ts (i + 1)
one_more bank ss ts i d e f h k same = record {
  within = omega (arith, k);
  same = rw add-one
      (take-suc (trees_under bank ss) i (var 0) (subst (λ (n : ℕ). i < n) (sym (under_length bank ss)) h)
      ∙ ap₂ (λ (us : List Tree) (u : Tree). us ++ u ∷ []) f.same (under_at bank ss i d h ∙ same ∙ sym (under_at bank ts i e k))
      ∙ sym (take-suc (trees_under bank ts) i (var 0) (subst (λ (n : ℕ). i < n) (sym (under_length bank ts)) k)));
}

pub second_ends : (bank : List Tree) (ss ts : List TermId) (i : ℕ) → AreFronts bank ss ts i → i < length ss → length ts ≤ i → AreCommon bank ss ts i
second_ends bank ss ts i f h k = record {
  within_first = omega (arith, h);
  within_second = f.within;
  same = f.same;
  other = λ a b. (let l = under_length bank ts in let none : ⊥ = omega (arith, b, l, k) in elim none [ ]);
}

pub first_ends : (bank : List Tree) (ss ts : List TermId) (i : ℕ) → AreFronts bank ss ts i → i ≡ length ss → AreCommon bank ss ts (length ss)
first_ends bank ss ts i f e = record {
  within_first = omega arith;
  within_second = (let h = f.within in omega (arith, h, e));
  same = subst (λ (n : ℕ). take n (trees_under bank ss) ≡ take n (trees_under bank ts)) e f.same;
  other = λ a b. (let l = under_length bank ss in let none : ⊥ = omega (arith, a, l) in elim none [ ]);
}

pub they_differ : (bank : List Tree) (ss ts : List TermId) (i : ℕ) (d e : TermId) → AreFronts bank ss ts i → i < length ss → i < length ts
    → same_tree (tree_at bank (slice_index_or ss i d).0) (tree_at bank (slice_index_or ts i e).0) ≡ false → AreCommon bank ss ts i
they_differ bank ss ts i d e f h k differ = record {
  within_first = omega (arith, h);
  within_second = f.within;
  same = f.same;
  other = λ a b. ap₂ same_tree (under_at bank ss i d h) (under_at bank ts i e k) ∙ differ;
}

pub different : (s t : Tree) → (s ≡ t → ⊥) → same_tree s t ≡ false
different s t h = by (same_tree s t) refl
  where
    by : (b : Bool) → same_tree s t ≡ b → b ≡ false
    by true e = elim (h (tree_same s t e)) [ ]
    by false e = refl
