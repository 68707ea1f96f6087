-- The variables of the first arguments are short.
use Rattle.std.proofs.Common.{take}
use Rattle.std.specs.List.{All}
use Rattle.printed_proofs.proofs.Variables.{IsShortTerm}
use Rattle.printed_proofs.proofs.clauses.+variables_are_short.Given as goal

abbrev pub invariant-loop-part : goal.invariant-loop-part
invariant-loop-part l = All IsShortTerm (take l.part-index l.part-items)
