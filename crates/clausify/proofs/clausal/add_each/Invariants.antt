-- What is found and what the rest adds is all that is added.
use Rattle.std.proofs.Common.{◌≡◌, ◌++◌, drop}
use Rattle.clausify.specs.Clausal.{with_each}
use Rattle.clausify.proofs.clausal.add_each.Given as goal

abbrev pub invariant-loop-other : goal.invariant-loop-other
invariant-loop-other l = l.found.items ++ with_each l.clause (drop l.other-index l.others) ≡ l.fn.found.items ++ with_each l.clause l.others
