-- The terms from here on decide.
use Rattle.std.proofs.Common.{◌≡◌}
use Rattle.substitutions.proofs.Variables.{variable_from}
use Rattle.substitutions.proofs.occurring.+has_variable.Given as goal

abbrev pub invariant-loop-term : goal.invariant-loop-term
invariant-loop-term l = variable_from l.x l.term-items 0 ≡ variable_from l.x l.term-items l.term-index
