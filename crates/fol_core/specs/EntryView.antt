-- What a Skolem entry of the code is to pick.
use Rattle.std.specs.Prelude.{ℕ, List, [], ◌∷◌}
use Rattle.fol_core.specs.Fol.{Fol, exists}
use Rattle.fol_core.specs.FormulaView.{fol_of}
use Rattle.fol_core.specs.SkolemAxioms.{SkolemAxiom}
use Rattle.fol_core.specs.declared.clause.Entry.{Entry}

-- the formula under an existential quantifier for each of the variables, the first outermost
abbrev pub some_over : List ℕ → Fol → Fol
some_over [] f = f
some_over (x ∷ xs) f = exists x (some_over xs f)

abbrev pub skolem_axiom_of : Entry → SkolemAxiom
skolem_axiom_of e =
    record {
      symbol = e.symbol.0;
      variables = e.variables.items;
      variable = e.variable;
      body = some_over e.bound.items (fol_of e.body);
    }
