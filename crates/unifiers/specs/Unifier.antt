-- Unifiers, and the most general one by the first difference.
use Rattle.std.specs.Prelude.{ℕ, zero, suc, ◌≡◌, ◌+◌, ◌==◌, if◌then◌else◌, List, [], ◌∷◌, length, Option, Some, None}
use Rattle.std.specs.Option.{option_map}
use Rattle.fol_core.specs.Free.{variables_of_all}
use Rattle.fol_core.specs.Substitutions.{Substitution, with_term, substitute, substitute_all}
use Rattle.fol_core.specs.Tree.{Tree, var, elem, app, Trees, none, more}
use Rattle.substitutions.specs.Bindings.{Binding}
use Rattle.substitutions.specs.Instances.{followed}
use Rattle.substitutions.specs.Occurring.{has_variable}

-- a substitution makes the terms of two lists the same, each and each
abbrev pub Unifies : Substitution → Trees → Trees → Type 0
Unifies s ss ts = substitute_all s ss ≡ substitute_all s ts

-- one is another followed by a third
abbrev pub IsCovered : Substitution → Substitution → Type 0
IsCovered u s = (r : Substitution) × ((x : ℕ) → u x ≡ substitute r (s x))

-- whatever unifies is this one followed by another
pub record IsMostGeneral (s : Substitution) (ss ts : Trees) : Type 0 where
  pub unifies : Unifies s ss ts
  pub covers : (u : Substitution) → Unifies u ss ts → IsCovered u s

-- where two terms differ first: nowhere, at heads that nothing makes the same, or at a variable
pub data Difference : Type 0 where
  same : Difference
  clash : Difference
  bind : ℕ → Tree → Difference

abbrev pub or_else : Difference → Difference → Difference
or_else same d = d
or_else clash d = clash
or_else (bind x t) d = bind x t

abbrev mutual
  pub differ : Tree → Tree → Difference
  differ (var x) (var y) = if x == y then same else bind x (var y)
  differ (var x) (elem k) = bind x (elem k)
  differ (var x) (app f ts) = bind x (app f ts)
  differ (elem k) (var y) = bind y (elem k)
  differ (elem k) (elem n) = if k == n then same else clash
  differ (elem k) (app g ts) = clash
  differ (app f ss) (var y) = bind y (app f ss)
  differ (app f ss) (elem n) = clash
  differ (app f ss) (app g ts) = if f == g then differ_all ss ts else clash

  pub differ_all : Trees → Trees → Difference
  differ_all none none = same
  differ_all none (more t ts) = clash
  differ_all (more s ss) none = clash
  differ_all (more s ss) (more t ts) = or_else (differ s t) (differ_all ss ts)

-- a term for one variable
abbrev pub only : ℕ → Tree → Substitution
only x t = with_term var x t

-- bindings put in one after the other
abbrev pub solution : List Binding → Substitution
solution [] = var
solution (b ∷ bs) = followed (only b.0 b.1) (solution bs)

-- a variable that differs is bound, unless its term has it, and what is left is unified
abbrev pub after_difference : Difference → Option (List Binding) →
    (ℕ → Tree → Option (List Binding)) → Option (List Binding)
after_difference same found go = found
after_difference clash found go = None
after_difference (bind x t) found go =
    if has_variable x t then None else option_map (λ bs. (x, t) ∷ bs) (go x t)

abbrev pub unifier : ℕ → Trees → Trees → Option (List Binding)
unifier zero ss ts = after_difference (differ_all ss ts) (Some []) (λ x t. None)
unifier (suc k) ss ts =
    after_difference (differ_all ss ts) (Some [])
    (λ x t. unifier k (substitute_all (only x t) ss) (substitute_all (only x t) ts))

-- each round does away with a variable
abbrev pub unifier_of : Trees → Trees → Option (List Binding)
unifier_of ss ts = unifier (length (variables_of_all ss) + length (variables_of_all ts)) ss ts
