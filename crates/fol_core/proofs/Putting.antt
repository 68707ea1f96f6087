-- Terms put in for variables, as lists.
use Rattle.std.proofs.Common.{◌≡◌, ◌≤◌, ◌∙◌, ℕ, List, [], ◌∷◌, map, take, length, refl, ap}
use Rattle.std.proofs.lemmas.List.{take_all}
use Rattle.fol_core.specs.Tree.{Tree, more, trees_of}
use Rattle.fol_core.specs.TermView.{tree_of, tree_list}
use Rattle.fol_core.specs.declared.term.Term.{Term}
use Rattle.fol_core.specs.Substitutions.{Substitution, substitute, substitute_all}

-- term by term
pub put_each : (terms : Substitution) (ts : List Term) → trees_of (map (λ t. substitute terms (tree_of t)) ts) ≡ substitute_all terms (trees_of (tree_list ts))
put_each terms [] = refl
put_each terms (t ∷ ts) = ap (more (substitute terms (tree_of t))) (put_each terms ts)

-- and all of them, where so many are made
pub put_made : (terms : Substitution) (ts : List Term) (i : ℕ) (made : List Tree) → length ts ≤ i → made ≡ map (λ t. substitute terms (tree_of t)) (take i ts)
    → trees_of made ≡ substitute_all terms (trees_of (tree_list ts))
put_made terms ts i made end is = ap trees_of (is ∙ ap (map (λ t. substitute terms (tree_of t))) (take_all i ts end)) ∙ put_each terms ts
