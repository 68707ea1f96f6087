-- None of the first literals is the same.
use Rattle.inference.proofs.PlainSteps.{NoneBefore}
use Rattle.inference.proofs.plain.is_repeated.Given as goal

abbrev pub invariant-loop-earlier : goal.invariant-loop-earlier
invariant-loop-earlier l = NoneBefore l.clause l.place l.earlier
