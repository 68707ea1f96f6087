-- Equations, and the terms below an atom.
use Rattle.std.specs.Prelude.{ℕ, Bool, true, false, ◌==◌, List, [], ◌∷◌, Option, Some, None, unwrap_or}
use Rattle.fol_core.specs.Literals.{equality}
use Rattle.fol_core.specs.Tree.{Tree, var, elem, app, none, more}
use Rattle.substitutions.specs.Paths.{subterm_at}

abbrev pub equation : Tree → Tree → Tree
equation s t = app equality (more s (more t none))

abbrev pub is_equation : Tree → Bool
is_equation (app r (more s (more t none))) = r == equality
is_equation t = false

-- the sides of an equation
abbrev pub left_of : Tree → Tree
left_of (app r (more s ts)) = s
left_of t = var 0

abbrev pub right_of : Tree → Tree
right_of (app r (more s (more t ts))) = t
right_of t = var 0

-- a term below an atom: a path has at least one number
abbrev pub below : Tree → List ℕ → Option Tree
below t [] = None
below t (k ∷ path) = subterm_at t (k ∷ path)

abbrev pub is_there : Option Tree → Bool
is_there None = false
is_there (Some t) = true

-- whether there is one that is no variable
abbrev pub is_no_variable : Option Tree → Bool
is_no_variable None = false
is_no_variable (Some (var x)) = false
is_no_variable (Some (elem k)) = true
is_no_variable (Some (app f ts)) = true

abbrev pub term_below : Tree → List ℕ → Tree
term_below t path = unwrap_or (below t path) (var 0)
