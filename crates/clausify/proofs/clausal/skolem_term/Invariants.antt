-- The first variables of the scope are made.
use Rattle.std.proofs.Common.{◌≡◌, map, take}
use Rattle.fol_core.specs.Tree.{var}
use Rattle.clausify.proofs.clausal.skolem_term.Given as goal

abbrev pub invariant-loop-x : goal.invariant-loop-x
invariant-loop-x l = l.variables ≡ map var (take l.x-index l.scope)
