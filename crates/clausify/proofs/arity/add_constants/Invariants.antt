-- As many as were gone over.
use Rattle.std.proofs.Common.{◌≡◌, ◌++◌, replicate}
use Rattle.clausify.proofs.arity.add_constants.Given as goal

abbrev pub invariant-loop-x : goal.invariant-loop-x
invariant-loop-x l = l.found.items ≡ l.fn.found.items ++ replicate l._x-index 0
