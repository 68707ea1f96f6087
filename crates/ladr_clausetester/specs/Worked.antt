-- Interpretations worked out.
use Rattle.std.specs.Prelude.{[], ◌∷◌, codes}
use Rattle.fol_core.specs.Fol.{equal, atom, forall, exists}
use Rattle.fol_problem.specs.Stated.{Stated, stated, said}
use Rattle.fol_core.specs.SymbolTable.{symbol}
use Rattle.fol_core.specs.Tree.{Tree, var, app, none, more}
use Rattle.fol_problem.specs.declared.problem.Role.TheVariants.{Assumption, Goal}
use Rattle.fol_core.specs.declared.symbols.Kind.TheVariants.{Function, Relation}
use Rattle.ladr_commands.specs.ByName.{ByName, by_name, table}

abbrev pub f : Tree → Tree
f t = app 0 (more t none)

-- a function that is its own inverse, and whether it leaves an element where it is
abbrev pub involution : Stated
involution =
    stated (symbol (codes "f") 1 Function ∷ [])
    (said Assumption (equal (f (f (var 0))) (var 0))
    ∷ said Assumption (exists 0 (equal (f (var 0)) (var 0))) ∷ [])

abbrev pub exchange : ByName
exchange = by_name 2 (table Function (codes "f") 1 (1 ∷ 0 ∷ []) ∷ [])

-- and one that isn't its own inverse
abbrev pub collapse : ByName
collapse = by_name 2 (table Function (codes "f") 1 (0 ∷ 0 ∷ []) ∷ [])

abbrev pub g : Tree → Tree
g t = app 1 (more t none)

-- a relation that holds of the first element alone, and a function with no other value, where `y`
-- is free
abbrev pub constant : Stated
constant =
    stated (symbol (codes "p") 2 Relation ∷ symbol (codes "f") 1 Function ∷ [])
    (said Assumption (forall 0 (atom 0 (more (var 0) (more (g (var 1)) none))))
    ∷ said Goal (exists 0 (equal (g (var 0)) (var 1))) ∷ [])

abbrev pub constant_tables : ByName
constant_tables =
    by_name 2
    (table Function (codes "f") 1 (0 ∷ 0 ∷ []) ∷ table Relation (codes "p") 2 (1 ∷ 0 ∷ 1 ∷ 0 ∷ [])
    ∷ [])
