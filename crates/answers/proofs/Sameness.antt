-- Terms that are the same, one by one.
use Rattle.std.proofs.Common.{◌≡◌, ◌↔◌, ◌<◌, ◌≤◌, ◌+◌, ◌∙◌, ℕ, suc, Bool, true, false, ◌&&◌, IsTrue, List, [], ◌∷◌, length, get_or, drop, refl, sym, ap, ap₂}
use Rattle.std.proofs.lemmas.Bool.{false_from_ne_true}
use Rattle.std.proofs.lemmas.List.{drop_all}
use Rattle.std.proofs.Math.Bool.{and-false}
use Rattle.clause_limits.proofs.Measures.{next_item}
use Rattle.fol_core.specs.Tree.{Tree, trees_of}
use Rattle.fol_core.specs.TermView.{tree_of, tree_list}
use Rattle.fol_core.specs.declared.term.Term.{Term}
use Rattle.unifiers.specs.Matching.{same_tree, same_trees}
use Rattle.unifiers.proofs.MatchesFound.{same_itself, tree_same}

same_is : (b : Bool) (t u : Tree) → IsTrue b ↔ (t ≡ u) → same_tree t u ≡ b
same_is true t u h = ap (same_tree t) (sym (h.0 refl)) ∙ same_itself t
same_is false t u h = false_from_ne_true (same_tree t u) (λ e. let is = h.1 (tree_same t u e) in cc)

-- whether those from a place on are
abbrev pub same_from : List Term → List Term → ℕ → Bool
same_from ls rs i = same_trees (trees_of (tree_list (drop i ls))) (trees_of (tree_list (drop i rs)))

same_step : (ls rs : List Term) (i : ℕ) (l r : Term) → i < length ls → i < length rs → l ≡ get_or ls i l → r ≡ get_or rs i r
    → same_from ls rs i ≡ (same_tree (tree_of l) (tree_of r) && same_from ls rs (i + 1))
same_step ls rs i l r h k is are = ap₂ (λ us vs. same_trees (trees_of (tree_list us)) (trees_of (tree_list vs))) (next_item ls i l h is) (next_item rs i r k are)

pub same_here : (ls rs : List Term) (i : ℕ) (l r : Term) (b : Bool) → i < length ls → i < length rs → l ≡ get_or ls i l → r ≡ get_or rs i r
    → IsTrue b ↔ (tree_of l ≡ tree_of r) → b ≡ true → same_from ls rs i ≡ same_from ls rs (i + 1)
same_here ls rs i l r b h k is are same e = same_step ls rs i l r h k is are ∙ ap (λ c. c && same_from ls rs (i + 1)) (same_is b (tree_of l) (tree_of r) same ∙ e)

pub same_not : (ls rs : List Term) (i : ℕ) (l r : Term) (b : Bool) → i < length ls → i < length rs → l ≡ get_or ls i l → r ≡ get_or rs i r
    → IsTrue b ↔ (tree_of l ≡ tree_of r) → b ≡ false → same_from ls rs i ≡ false
same_not ls rs i l r b h k is are same e = same_step ls rs i l r h k is are ∙ ap (λ c. c && same_from ls rs (i + 1)) (same_is b (tree_of l) (tree_of r) same ∙ e)

pub same_end : (ls rs : List Term) (i : ℕ) → length ls ≤ i → length rs ≤ i → same_from ls rs i ≡ true
same_end ls rs i h k = ap₂ (λ us vs. same_trees (trees_of (tree_list us)) (trees_of (tree_list vs))) (drop_all i ls h) (drop_all i rs k)

-- there must be as many
pub as_many : (ls rs : List Term) → (length ls ≡ length rs → ⊥) → same_trees (trees_of (tree_list ls)) (trees_of (tree_list rs)) ≡ false
as_many [] [] h = absurd (h refl)
as_many [] (r ∷ rs) h = refl
as_many (l ∷ ls) [] h = refl
as_many (l ∷ ls) (r ∷ rs) h = ap (λ b. same_tree (tree_of l) (tree_of r) && b) (as_many ls rs (λ e. h (ap suc e))) ∙ and-false (same_tree (tree_of l) (tree_of r))
