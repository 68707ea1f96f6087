-- A problem, tables and readings worked out.
use Rattle.std.specs.Prelude.{ℕ, [], ◌∷◌, codes}
use Rattle.fol_core.specs.Fol.{atom, exists}
use Rattle.fol_problem.specs.Stated.{Stated, said, stated}
use Rattle.fol_core.specs.SymbolTable.{symbol}
use Rattle.fol_core.specs.Tree.{var, app, none, more}
use Rattle.fol_problem.specs.declared.problem.Role.TheVariants.{Assumption, Goal}
use Rattle.fol_core.specs.declared.symbols.Kind.TheVariants.{Function, Relation}
use Rattle.ladr_io.specs.Times.{Times}
use Rattle.model_tables.specs.Tables.{Finite, listing}

-- `exists x p(x)` and the goal `p(a)`
abbrev pub spared : Stated
spared =
    stated (symbol (codes "a") 0 Function ∷ symbol (codes "p") 1 Relation ∷ [])
    (said Assumption (exists 0 (atom 1 (more (var 0) none)))
    ∷ said Goal (atom 1 (more (app 0 none) none)) ∷ [])

-- two elements: `a` is x, and `p` has these values at 0 and at 1
abbrev pub tables : ℕ → ℕ → ℕ → Finite
tables x y z =
    record { top = 1; rows = listing Function (x ∷ []) ∷ listing Relation (y ∷ z ∷ []) ∷ [] }

-- one element, of which `p` is true or not
abbrev pub single : ℕ → Finite
single y = record { top = 0; rows = listing Function (0 ∷ []) ∷ listing Relation (y ∷ []) ∷ [] }

-- so many readings of a clock, of which the first was 9, and the last two were these
abbrev pub readings : ℕ → ℕ → ℕ → Times
readings n between last = record { count = n; first = 9; last = last; between = between }
