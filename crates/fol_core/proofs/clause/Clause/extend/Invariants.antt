-- The literals so far are those that were yielded.
use Rattle.std.proofs.Common.{◌≡◌, ◌++◌, map}
use Rattle.fol_core.specs.ClauseView.{literal_of}
use Rattle.fol_core.proofs.clause.Clause.extend.Given as goal

abbrev pub invariant-loop-literal : goal.invariant-loop-literal
invariant-loop-literal l = l.self ≡ l.fn.self ++ map literal_of l.yielded
