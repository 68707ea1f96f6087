-- Terms with variables of their own each, renamed apart.
use Rattle.std.proofs.Common.{◌≡◌, ◌↔◌, zero, suc, true, sym, ap, subst, ◌∙◌, List, [], ◌∷◌, map}
use Rattle.fol_core.specs.Literals.{literal, ClauseTree}
use Rattle.fol_core.specs.Substitutions.{Substitution, substitute}
use Rattle.fol_core.specs.Tree.{Tree, more, none, trees_of}
use Rattle.substitutions.specs.Apart.{Own, instances, interleaved}
use Rattle.substitutions.specs.Instances.{followed, substitute_clause}
use Rattle.substitutions.proofs.Composing.{substitute_twice, first_same, first_atom}
use Rattle.substitutions.proofs.Interleaving.{interleaving_is_apart}
use Rattle.unifiers.specs.Unifier.{Unifies}

first_of : {X : Type 0} (x y : X) (xs ys : List X) → x ∷ xs ≡ y ∷ ys → x ≡ y
first_of x y xs ys e = cc

rest_of : {X : Type 0} (x y : X) (xs ys : List X) → x ∷ xs ≡ y ∷ ys → xs ≡ ys
rest_of x y xs ys e = cc

-- what two substitutions make the same, one does of the terms renamed apart
pub both_made : (s t : Tree) (u v : Substitution) → substitute u s ≡ substitute v t
    → (w : Substitution) × Unifies w (trees_of (substitute (interleaved 2 0) s ∷ [])) (trees_of (substitute (interleaved 2 1) t ∷ []))
both_made s t u v e = (w, ap (λ x. more x none) (sym left ∙ e ∙ right))
  where
    one : Tree → ClauseTree
    one x = literal true x ∷ []

    other : Own
    other zero = u
    other (suc k) = v

    apart : (w : Substitution) × (instances other (one s ∷ one t ∷ []) ≡ map (substitute_clause w) (instances (interleaved 2) (one s ∷ one t ∷ [])))
    apart = interleaving_is_apart (one s ∷ one t ∷ []) other

    w : Substitution
    w = apart.0

    left : substitute u s ≡ substitute w (substitute (interleaved 2 0) s)
    left = first_atom (literal true (substitute u s)) (literal true (substitute w (substitute (interleaved 2 0) s))) [] [] (first_of _ _ _ _ apart.1)

    right : substitute v t ≡ substitute w (substitute (interleaved 2 1) t)
    right = first_atom (literal true (substitute v t)) (literal true (substitute w (substitute (interleaved 2 1) t))) [] [] (first_of _ _ _ _ (rest_of _ _ _ _ apart.1))

-- and what one does of these, two do of the terms
pub made_of_both : (s t : Tree) (w : Substitution) → Unifies w (trees_of (substitute (interleaved 2 0) s ∷ [])) (trees_of (substitute (interleaved 2 1) t ∷ []))
    → (u : Substitution) × (v : Substitution) × (substitute u s ≡ substitute v t)
made_of_both s t w h = (
  followed (interleaved 2 0) w,
  followed (interleaved 2 1) w,
  sym (substitute_twice (interleaved 2 0) w s)
      ∙ first_same _ _ none none h
      ∙ substitute_twice (interleaved 2 1) w t,
)

pub unified_apart : (s t : Tree) (ss ts : List Tree) (b : Type 0) → ss ≡ substitute (interleaved 2 0) s ∷ [] → ts ≡ substitute (interleaved 2 1) t ∷ []
    → (b ↔ ((w : Substitution) × Unifies w (trees_of ss) (trees_of ts))) → b ↔ ((u : Substitution) × (v : Substitution) × (substitute u s ≡ substitute v t))
unified_apart s t ss ts b left right h = (
  λ yes.
      let made = h.0 yes in
      made_of_both s t made.0 (subst (λ l. Unifies made.0 (trees_of l) (trees_of (substitute (interleaved 2 1) t ∷ []))) left (subst (λ r. Unifies made.0 (trees_of ss) (trees_of r)) right made.1)),
  λ made.
      let one = both_made s t made.0 made.1 made.2 in
      h.1 (one.0, subst (λ l. Unifies one.0 (trees_of l) (trees_of ts)) (sym left) (subst (λ r. Unifies one.0 (trees_of (substitute (interleaved 2 0) s ∷ [])) (trees_of r)) (sym right) one.1)),
)
