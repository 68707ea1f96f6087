-- the names of the symbols so far
use Rattle.std.proofs.Common.{take}
use Rattle.proof_lines.specs.Strays.{AreNamesOf}
use Rattle.proof_lines.proofs.strays.ProblemNames.of.Given as goal

abbrev pub invariant-loop-number : goal.invariant-loop-number
invariant-loop-number l = AreNamesOf (take l.number l.symbols) l.names
