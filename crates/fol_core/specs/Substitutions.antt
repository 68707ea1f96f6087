-- Terms put in for variables.
use Rattle.std.specs.Prelude.{ℕ, ◌==◌, if◌then◌else◌}
use Rattle.fol_core.specs.Tree.{Tree, var, elem, app, Trees, none, more}

-- a term for each variable
abbrev pub Substitution : Type 0
Substitution = ℕ → Tree

-- with this term for one of them
abbrev pub with_term : Substitution → ℕ → Tree → Substitution
with_term terms y t = λ x. if x == y then t else terms x

abbrev mutual
  -- a term with terms put in for its variables
  pub substitute : Substitution → Tree → Tree
  substitute terms (var x) = terms x
  substitute terms (elem k) = elem k
  substitute terms (app f ts) = app f (substitute_all terms ts)

  pub substitute_all : Substitution → Trees → Trees
  substitute_all terms none = none
  substitute_all terms (more t ts) = more (substitute terms t) (substitute_all terms ts)
