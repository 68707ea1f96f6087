-- The first terms are copied.
use Rattle.std.proofs.Common.{◌≡◌, map, take}
use Rattle.substitutions.specs.View.{binding_of}
use Rattle.clause_store.proofs.copying.copy_subst.Given as goal

abbrev pub invariant-loop-x : goal.invariant-loop-x
invariant-loop-x l = l.copy ≡ map binding_of (take l.x-index l.x-items)
