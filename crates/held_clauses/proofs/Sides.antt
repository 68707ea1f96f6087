-- Equations of one term with itself.
use Rattle.std.proofs.Common.{◌≡◌, ◌↔◌, Bool, true, false, ◌&&◌, IsTrue, refl, sym, ap, ap₂, subst, ◌∙◌}
use Rattle.std.proofs.lemmas.Bool.{false_from_ne_true}
use Rattle.fol_core.specs.Tree.{Tree}
use Rattle.derivation.specs.Equations.{is_equation, left_of, right_of}
use Rattle.derivation.specs.Sides.{AreSides}
use Rattle.unifiers.specs.Matching.{same_tree}
use Rattle.unifiers.proofs.MatchesFound.{tree_same, same_itself}

pub same_is : (b : Bool) (s t : Tree) → IsTrue b ↔ (s ≡ t) → b ≡ same_tree s t
same_is true s t h = sym (true_same (h.0 refl))
  where
    true_same : s ≡ t → same_tree s t ≡ true
    true_same e = subst (λ u. same_tree s u ≡ true) e (same_itself s)
same_is false s t h = sym (false_from_ne_true (same_tree s t) (λ e. let f = h.1 (tree_same s t e) in cc))

pub same_sides : (b : Bool) (atom s t : Tree) → AreSides atom s t → IsTrue b ↔ (s ≡ t) → b ≡ (is_equation atom && same_tree (left_of atom) (right_of atom))
same_sides b atom s t are same =
    same_is b s t same ∙ ap₂ same_tree are.left_is are.right_is ∙ sym (ap (λ x. x && same_tree (left_of atom) (right_of atom)) are.equal)
