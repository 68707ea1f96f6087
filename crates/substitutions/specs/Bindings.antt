-- Substitutions as lists of bindings.
use Rattle.std.specs.Prelude.{ℕ, List, [], ◌∷◌}
use Rattle.std.specs.Coded.{Coded, coded×, coded_ℕ, coded_list}
use Rattle.fol_core.specs.Substitutions.{Substitution, with_term}
use Rattle.fol_core.specs.Tree.{Tree, var}
use Rattle.fol_core.specs.TreeCodes.{coded_tree}

-- a variable and its term
abbrev pub Binding : Type 0
Binding = ℕ × Tree

-- each variable has the first term that is given for it, and stands for itself where there is none
abbrev pub by_bindings : List Binding → Substitution
by_bindings [] = var
by_bindings (b ∷ bs) = with_term (by_bindings bs) b.0 b.1

abbrev pub coded_bindings : Coded (List Binding)
coded_bindings = coded_list (coded× coded_ℕ coded_tree)
