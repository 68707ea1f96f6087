-- The literals so far are the first of the other clause.
use Rattle.std.proofs.Common.{◌≡◌, ◌++◌, take, map}
use Rattle.fol_core.specs.ClauseView.{literal_of}
use Rattle.fol_core.proofs.clause.Clause.append.Given as goal

abbrev pub invariant-loop-literal : goal.invariant-loop-literal
invariant-loop-literal l = l.self ≡ l.fn.self ++ map literal_of (take l.literal-index l.literal-items)
