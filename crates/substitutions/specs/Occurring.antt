-- The variables that terms have.
use Rattle.std.specs.Prelude.{ℕ, Bool, false, ◌==◌, ◌||◌}
use Rattle.std.specs.List.{list_any}
use Rattle.fol_core.specs.Literals.{ClauseTree}
use Rattle.fol_core.specs.Tree.{Tree, var, elem, app, Trees, none, more}

abbrev mutual
  -- whether the term has the variable
  pub has_variable : ℕ → Tree → Bool
  has_variable x (var y) = x == y
  has_variable x (elem k) = false
  has_variable x (app f ts) = have_variable x ts

  pub have_variable : ℕ → Trees → Bool
  have_variable x none = false
  have_variable x (more t ts) = has_variable x t || have_variable x ts

-- whether some literal has it
abbrev pub occurs_in_clause : ℕ → ClauseTree → Bool
occurs_in_clause x c = list_any (λ l. has_variable x l.atom) c
