-- The numbers from here on decide.
use Rattle.std.proofs.Common.{◌≡◌, drop}
use Rattle.derivation.specs.Refused.{are_there}
use Rattle.derivation.specs.View.{lines_of}
use Rattle.proof_check.proofs.earlier.are_there.Given as goal

abbrev pub invariant-loop-number : goal.invariant-loop-number
invariant-loop-number l = are_there (lines_of l.earlier) l.numbers ≡ are_there (lines_of l.earlier) (drop l.number-index l.numbers)
