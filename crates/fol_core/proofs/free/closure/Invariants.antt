-- The quantifiers still to come are those of the variables that are left.
use Rattle.std.proofs.Common.{◌≡◌, vec_len}
use Rattle.fol_core.specs.Free.{closed_over, closure_of}
use Rattle.fol_core.specs.FormulaView.{fol_of}
use Rattle.fol_core.proofs.free.closure.Given as goal

abbrev pub invariant-loop-x : goal.invariant-loop-x
invariant-loop-x l = closed_over l.variables.items (fol_of l.shape) ≡ closure_of (fol_of l.formula.shape)

abbrev pub decreases-loop-x : goal.decreases-loop-x
decreases-loop-x l = vec_len l.variables
