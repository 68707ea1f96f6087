-- What an order tells of two terms.
use Rattle.std.proofs.Common.{◌≡◌, Bool, true, false, if◌then◌else◌, refl, sym, ap, ◌∙◌}
use Rattle.fol_core.specs.Tree.{Tree}
use Rattle.term_order.specs.Compared.{compared_by}
use Rattle.term_order.specs.declared.compared.Compared.TheVariants.{Greater, Less, Same, NotComparable}
use Rattle.term_order.proofs.Fronts.{different}
use Rattle.term_order.proofs.Tests.{same_from}
use Rattle.unifiers.specs.Matching.{same_tree}

module _ (greater : Tree → Tree → Bool) (s t : Tree) where
  by_tests : (a b c : Bool) → same_tree s t ≡ a → greater s t ≡ b → greater t s ≡ c
      → (if a then Same else (if b then Greater else (if c then Less else NotComparable))) ≡ compared_by greater s t
  by_tests a b c i j k =
      sym (ap (λ (x : Bool). if x then Same else (if greater s t then Greater else (if greater t s then Less else NotComparable))) i
      ∙ ap (λ (x : Bool). if a then Same else (if x then Greater else (if greater t s then Less else NotComparable))) j
      ∙ ap (λ (x : Bool). if a then Same else (if b then Greater else (if x then Less else NotComparable))) k)

  pub they_are_same : s ≡ t → Same ≡ compared_by greater s t
  they_are_same e = by_tests true (greater s t) (greater t s) (same_from s t e) refl refl

  pub first_is_greater : (s ≡ t → ⊥) → greater s t ≡ true → Greater ≡ compared_by greater s t
  first_is_greater d g = by_tests false true (greater t s) (different s t d) g refl

  pub second_is_greater : (s ≡ t → ⊥) → greater s t ≡ false → greater t s ≡ true → Less ≡ compared_by greater s t
  second_is_greater d g h = by_tests false false true (different s t d) g h

  pub none_is_greater : (s ≡ t → ⊥) → greater s t ≡ false → greater t s ≡ false → NotComparable ≡ compared_by greater s t
  none_is_greater d g h = by_tests false false false (different s t d) g h
