-- What the term now, behind what waits now, leads to is what the first one led to.
use Rattle.std.proofs.Common.{◌≡◌, length}
use Rattle.ladr_reader.specs.Machine.{behind_term}
use Rattle.ladr_reader.proofs.step.after.Given as goal

abbrev pub invariant-loop-stack : goal.invariant-loop-stack
invariant-loop-stack l = behind_term l.build.most l.follow l.reading.term l.precedence l.stack ≡ behind_term l.build.most l.fn.follow l.fn.reading.term l.fn.precedence l.fn.stack

abbrev pub decreases-loop-stack : goal.decreases-loop-stack
decreases-loop-stack l = length l.stack
