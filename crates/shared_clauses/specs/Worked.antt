-- Clauses on shared terms worked out.
use Rattle.std.specs.Prelude.{◌≡◌, List, [], ◌∷◌, true, false}
use Rattle.fol_core.specs.Literals.{literal}
use Rattle.fol_core.specs.Tree.{Tree, var, app, none, more}
use Rattle.shared_clauses.specs.Bound.{bound_in}
use Rattle.shared_clauses.specs.Shared.{clause_in}
use Rattle.shared_clauses.specs.Ways.{first_tree}

-- x, f(x,x) and f(f(x,x),f(x,x)), each once
abbrev pub doubled : List Tree
doubled =
    let x : Tree = var 0 in
    let f : Tree = app 1 (more x (more x none)) in
    x ∷ f ∷ app 1 (more f (more f none)) ∷ []

-- the last of them has seven symbols and variables on three levels; two literals may have one atom
abbrev pub WorkedClause : Type 0
WorkedClause =
    (clause_in doubled (record { positive = true; atom = record { 0 = 1 } } ∷ record { positive = false; atom = record { 0 = 1 } } ∷ [])
    ≡ literal true (app 1 (more (var 0) (more (var 0) none))) ∷ literal false (app 1 (more (var 0) (more (var 0) none))) ∷ [])
    × (bound_in doubled ((5, record { 0 = 0 }) ∷ []) ≡ (5, var 0) ∷ [])
    × (first_tree doubled (record { 0 = 1 } ∷ record { 0 = 0 } ∷ []) ≡ app 1 (more (var 0) (more (var 0) none)))
