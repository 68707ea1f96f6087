-- The scope of a place, from the code's list of bindings.
use Rattle.std.specs.Prelude.{List, [], ◌∷◌}
use Rattle.ladr_formulas.specs.Formulas.{Bound}
use Rattle.ladr_formulas.specs.declared.scopes.ScopeBinding.{ScopeBinding}

-- the innermost binding, which the code has last, comes first
abbrev pub bounds_onto : List Bound → List ScopeBinding → List Bound
bounds_onto bounds [] = bounds
bounds_onto bounds (b ∷ bs) = bounds_onto (record { name = b.name; number = b.number } ∷ bounds) bs

-- the scope around the innermost binding
abbrev pub outer : List Bound → List Bound
outer [] = []
outer (b ∷ bs) = bs
