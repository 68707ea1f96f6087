-- Why terms can't be made the same, and that nothing unifies them then.
use Rattle.std.proofs.Common.{◌≡◌, ℕ, zero, suc, ◌<◌, Bool, true, false, List, [], ◌∷◌, length, get_or, refl, sym, ap, ◌∙◌, arith}
use Rattle.fol_core.specs.Substitutions.{Substitution, substitute, substitute_all}
use Rattle.fol_core.specs.Tree.{Tree, app, elem, trees_of, var}
use Rattle.fol_core.specs.TermView.{tree_of, tree_list}
use Rattle.fol_core.specs.declared.term.Term.{Term}
use Rattle.discrim_tree.specs.Meeting.{NeverMeet}
use Rattle.discrim_tree.specs.Terms.{can_unify, has_instance}
use Rattle.discrim_tree.proofs.Terms.{instances_are_made, unifiers_are_of_two}
use Rattle.substitutions.proofs.Composing.{substitute_variables}

-- other elements, other heads
pub apart_elements : (k n : ℕ) → (k ≡ n → ⊥) → NeverMeet (elem k) (elem n)
apart_elements k n apart u v same = apart (cc)

pub apart_heads : (f g : ℕ) (ss ts : List Tree) → (f ≡ g → ⊥) → NeverMeet (app f (trees_of ss)) (app g (trees_of ts))
apart_heads f g ss ts apart u v same = apart (cc)

same_lengths : (ss ts : List Term) (u v : Substitution) → substitute_all u (trees_of (tree_list ss)) ≡ substitute_all v (trees_of (tree_list ts)) → length ss ≡ length ts
same_lengths [] [] u v same = refl
same_lengths [] (t ∷ ts) u v same = cc
same_lengths (s ∷ ss) [] u v same = cc
same_lengths (s ∷ ss) (t ∷ ts) u v same = ap suc (same_lengths ss ts u v (cc))

-- other numbers of arguments
pub apart_lengths : (f g : ℕ) (ss ts : List Term) → (length ss ≡ length ts → ⊥) → NeverMeet (app f (trees_of (tree_list ss))) (app g (trees_of (tree_list ts)))
apart_lengths f g ss ts apart u v same = apart (same_lengths ss ts u v (cc))

same_arguments : (ss ts : List Term) (i : ℕ) (d e : Term) (u v : Substitution) → i < length ss → i < length ts
    → substitute_all u (trees_of (tree_list ss)) ≡ substitute_all v (trees_of (tree_list ts)) → substitute u (tree_of (get_or ss i d)) ≡ substitute v (tree_of (get_or ts i e))
same_arguments [] ts i d e u v h k same = absurd (omega arith)
same_arguments (s ∷ ss) [] i d e u v h k same = absurd (omega arith)
same_arguments (s ∷ ss) (t ∷ ts) zero d e u v h k same = cc
same_arguments (s ∷ ss) (t ∷ ts) (suc i) d e u v h k same = same_arguments ss ts i d e u v (omega arith) (omega arith) (cc)

-- arguments that never meet
pub apart_arguments : (f g : ℕ) (ss ts : List Term) (i : ℕ) (s t : Term) → i < length ss → i < length ts → s ≡ get_or ss i s → t ≡ get_or ts i t
    → NeverMeet (tree_of s) (tree_of t) → NeverMeet (app f (trees_of (tree_list ss))) (app g (trees_of (tree_list ts)))
apart_arguments f g ss ts i s t h k is was apart u v same =
    apart u v (ap (λ r. substitute u (tree_of r)) is ∙ same_arguments ss ts i s t u v h k (cc) ∙ ap (λ r. substitute v (tree_of r)) (sym was))

-- terms that never meet have no unifier
pub never_unify : (s t : Tree) → NeverMeet s t → can_unify s t ≡ false
never_unify s t never = by (can_unify s t) refl
  where
    by : (b : Bool) → can_unify s t ≡ b → b ≡ false
    by false e = refl
    by true e = let made = (unifiers_are_of_two s t).0 e in absurd (never made.0 made.1 made.2)

-- a term and an instance of it have one
pub instance_unifies : (s t : Tree) (b : Bool) → b ≡ has_instance s t → b ≡ true → true ≡ can_unify s t
instance_unifies s t b is there =
    let made = (instances_are_made s t).0 (sym is ∙ there) in
    sym ((unifiers_are_of_two s t).1 (made.0, var, made.1 ∙ sym (substitute_variables t)))

pub general_unifies : (s t : Tree) (b : Bool) → b ≡ has_instance t s → b ≡ true → true ≡ can_unify s t
general_unifies s t b is there =
    let made = (instances_are_made t s).0 (sym is ∙ there) in
    sym ((unifiers_are_of_two s t).1 (var, made.0, substitute_variables s ∙ sym made.1))
