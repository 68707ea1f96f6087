-- What is found and what the rest gives is all.
use Rattle.std.proofs.Common.{◌≡◌, ◌++◌, drop}
use Rattle.clausify.specs.Clausal.{distributed}
use Rattle.clausify.proofs.clausal.distributed.Given as goal

abbrev pub invariant-loop-clause : goal.invariant-loop-clause
invariant-loop-clause l = l.found.items ++ distributed (drop l.clause-index l.left) l.right ≡ distributed l.left l.right
