-- The variables that two terms have in common.
use Rattle.std.specs.Prelude.{Bool, true, ◌&&◌}
use Rattle.fol_core.specs.Tree.{Tree, var, elem, app, Trees, none, more}
use Rattle.substitutions.specs.Occurring.{has_variable}

abbrev mutual
  -- whether a term has each variable of another one
  pub has_each_of : Tree → Tree → Bool
  has_each_of s (var x) = has_variable x s
  has_each_of s (elem k) = true
  has_each_of s (app f ts) = has_each_of_all s ts

  pub has_each_of_all : Tree → Trees → Bool
  has_each_of_all s none = true
  has_each_of_all s (more t ts) = has_each_of s t && has_each_of_all s ts
