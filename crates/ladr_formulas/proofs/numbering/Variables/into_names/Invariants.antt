-- the names so far, with those of the variables to come, are all
use Rattle.std.proofs.Common.{◌≡◌, ◌++◌, ◌-◌, length, drop}
use Rattle.ladr_formulas.specs.Formulas.{names_of_variables}
use Rattle.ladr_formulas.specs.Numbering.{woven}
use Rattle.ladr_formulas.proofs.numbering.Variables.into_names.Given as goal

abbrev pub invariant-loop-is_free : goal.invariant-loop-is_free
invariant-loop-is_free l =
    l.names ++ names_of_variables (woven (drop l.is_free-index l.is_free-items) l.free_names l.bound_names.rest.items)
    ≡ names_of_variables (woven l.is_free-items l.initial.free_names l.initial.bound_names.rest.items)

abbrev pub decreases-loop-is_free : goal.decreases-loop-is_free
decreases-loop-is_free l = length l.is_free-items - l.is_free-index
