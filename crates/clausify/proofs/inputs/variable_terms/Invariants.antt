-- The first variables are terms.
use Rattle.std.proofs.Common.{◌≡◌, map, take}
use Rattle.fol_core.specs.Tree.{var}
use Rattle.clausify.proofs.inputs.variable_terms.Given as goal

abbrev pub invariant-loop-x : goal.invariant-loop-x
invariant-loop-x l = l.terms ≡ map var (take l.x-index l.asked)
