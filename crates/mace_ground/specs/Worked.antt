-- Cells worked out: a constant, a relation of two arguments, and a function of one.
use Rattle.std.specs.Prelude.{List, [], ◌∷◌, true, false}
use Rattle.fol_core.specs.Literals.{ClauseTree, literal}
use Rattle.fol_core.specs.Tree.{var, app, none, more}
use Rattle.fol_core.specs.declared.symbols.Kind.TheVariants.{Function, Relation}
use Rattle.mace_ground.specs.Cells.{Block}

abbrev pub constant : Block
constant = record { kind = Function; symbol = 5; arity = 0 }

abbrev pub less : Block
less = record { kind = Relation; symbol = 2; arity = 2 }

abbrev pub next : Block
next = record { kind = Function; symbol = 7; arity = 1 }

abbrev pub blocks : List Block
blocks = constant ∷ less ∷ next ∷ []

-- less(x, y) or not less(y, x)
abbrev pub clause : ClauseTree
clause =
    literal true (app 2 (more (var 0) (more (var 1) none)))
    ∷ literal false (app 2 (more (var 1) (more (var 0) none))) ∷ []
