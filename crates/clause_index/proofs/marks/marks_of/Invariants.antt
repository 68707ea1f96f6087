-- The marks of the literals from here on are left.
use Rattle.std.proofs.Common.{◌≡◌, ◌++◌}
use Rattle.clause_index.specs.Marks.{marks_of}
use Rattle.clause_index.proofs.MarkSteps.{literals_from}
use Rattle.clause_index.proofs.marks.marks_of.Given as goal

abbrev pub invariant-loop-literal : goal.invariant-loop-literal
invariant-loop-literal l = l.marks.items ++ literals_from l.literal-items l.literal-index ≡ marks_of l.clause
