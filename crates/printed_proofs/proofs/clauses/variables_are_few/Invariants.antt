-- The variables of the first literals are short.
use Rattle.std.proofs.Common.{take}
use Rattle.std.specs.List.{All}
use Rattle.printed_proofs.proofs.Variables.{IsShortLiteral}
use Rattle.printed_proofs.proofs.clauses.variables_are_few.Given as goal

abbrev pub invariant-loop-literal : goal.invariant-loop-literal
invariant-loop-literal l = All IsShortLiteral (take l.literal-index l.literal-items)
