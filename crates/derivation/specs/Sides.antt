-- The sides of equations.
use Rattle.std.specs.Prelude.{◌≡◌, ◌==◌, if◌then◌else◌, true, Option, Some, None}
use Rattle.fol_core.specs.Literals.{equality}
use Rattle.fol_core.specs.Tree.{Tree, app, none, more}
use Rattle.derivation.specs.Equations.{is_equation, left_of, right_of}

-- the sides of a term, if it is an equation
abbrev pub sides_of : Tree → Option (Tree × Tree)
sides_of (app r (more s (more t none))) = if r == equality then Some (s, t) else None
sides_of t = None

-- a term is an equation, and these are its sides
pub record AreSides (t left right : Tree) : Type 0 where
  pub equal : is_equation t ≡ true
  pub left_is : left ≡ left_of t
  pub right_is : right ≡ right_of t
