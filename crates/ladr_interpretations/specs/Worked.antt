-- Formulas for examples.
use Rattle.std.specs.Prelude.{ℕ, List, [], ◌∷◌}
use Rattle.fol_core.specs.Fol.{Fol, equal, atom, negation, forall}
use Rattle.fol_core.specs.Tree.{Tree, var, elem, app, none, more}
use Rattle.fol_core.specs.declared.symbols.Kind.TheVariants.{Function, Relation}
use Rattle.model_tables.specs.Tables.{Finite, listing}

-- two elements, a constant 0 and a relation 2; symbol 1 has no entry
abbrev pub two : Finite
two =
    record {
      top = 1;
      rows = listing Function (1 ∷ []) ∷ listing Function [] ∷ listing Relation (0 ∷ 1 ∷ []) ∷ [];
    }

abbrev pub constant : ℕ → Tree
constant s = app s none

-- the relation of a term
abbrev pub related : Tree → Fol
related t = atom 2 (more t none)

-- "for each x, not r(x)", `r(1)`, `r(2)`, and `c1 = c0`
abbrev pub formulas : List Fol
formulas =
    forall 0 (negation (related (var 0))) ∷ related (elem 1) ∷ related (elem 2)
    ∷ equal (constant 1) (constant 0) ∷ []
