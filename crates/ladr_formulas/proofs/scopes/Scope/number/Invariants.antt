-- what the bindings so far say of the name
use Rattle.std.proofs.Common.{◌≡◌, [], take}
use Rattle.ladr_formulas.specs.Formulas.{bound_number}
use Rattle.ladr_formulas.specs.ScopeView.{bounds_onto}
use Rattle.ladr_formulas.proofs.scopes.Scope.number.Given as goal

abbrev pub invariant-loop-binding : goal.invariant-loop-binding
invariant-loop-binding l = l.number ≡ bound_number (bounds_onto [] (take l.binding-index l.binding-items)) l.name
