-- Instances and unifiers, as they are found.
use Rattle.std.proofs.Common.{◌≡◌, ◌↔◌, Bool, true, false, IsTrue, refl, sym, ap, List, [], Option, Some, None, is_some}
use Rattle.fol_core.specs.Substitutions.{Substitution, substitute}
use Rattle.fol_core.specs.Tree.{Tree, Trees}
use Rattle.substitutions.specs.Bindings.{Binding, by_bindings}
use Rattle.unifiers.specs.Matching.{matched}
use Rattle.unifiers.specs.Unifier.{Unifies, solution, unifier_of}
use Rattle.unifiers.proofs.Found.{most_general, none_there}
use Rattle.unifiers.proofs.MatchesFound.{match_makes, match_found}
use Rattle.term_unifiers.proofs.Renamed.{both_made, made_of_both}
use Rattle.discrim_tree.specs.Laws.{InstancesAreMade, UnifiersAreOfTwo}
use Rattle.discrim_tree.specs.Terms.{has_instance, apart_as, can_unify}

made_found : (s t : Tree) (u : Substitution) → substitute u s ≡ t → true ≡ has_instance s t
made_found s t u e = let found = match_found s t u e in sym (ap is_some found.1)

pub instances_are_made : InstancesAreMade
instances_are_made s t = (there (matched s t []) refl, λ h. sym (made_found s t h.0 h.1))
  where
    there : (o : Option (List Binding)) → matched s t [] ≡ o → is_some o ≡ true → (u : Substitution) × (substitute u s ≡ t)
    there None e h = cc
    there (Some bs) e h = (by_bindings bs, match_makes s t bs e)

-- a unifier is there, or none is
some_unifier : (ss ts : Trees) (u : Substitution) → Unifies u ss ts → is_some (unifier_of ss ts) ≡ true
some_unifier ss ts u h = by (unifier_of ss ts) refl
  where
    by : (o : Option (List Binding)) → unifier_of ss ts ≡ o → is_some o ≡ true
    by (Some bs) e = refl
    by None e = absurd (none_there ss ts u e h)

pub unifiers_are_of_two : UnifiersAreOfTwo
unifiers_are_of_two s t = (there (unifier_of (apart_as 0 s) (apart_as 1 t)) refl, λ h. let made = both_made s t h.0 h.1 h.2 in some_unifier (apart_as 0 s) (apart_as 1 t) made.0 made.1)
  where
    there : (o : Option (List Binding)) → unifier_of (apart_as 0 s) (apart_as 1 t) ≡ o → is_some o ≡ true → (u : Substitution) × (v : Substitution) × (substitute u s ≡ substitute v t)
    there None e h = cc
    there (Some bs) e h = made_of_both s t (solution bs) (most_general (apart_as 0 s) (apart_as 1 t) bs e).unifies

-- a test that says whether two substitutions make the terms the same
pub test_is : (s t : Tree) (b : Bool) → (IsTrue b ↔ ((u : Substitution) × (v : Substitution) × (substitute u s ≡ substitute v t))) → b ≡ can_unify s t
test_is s t true h = sym ((unifiers_are_of_two s t).1 (h.0 refl))
test_is s t false h = by (can_unify s t) refl
  where
    by : (c : Bool) → can_unify s t ≡ c → false ≡ can_unify s t
    by false e = sym e
    by true e = let bad : false ≡ true = h.1 ((unifiers_are_of_two s t).0 e) in cc
