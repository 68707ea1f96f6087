-- no full stop so far
use Rattle.proof_lines.proofs.Contents.{PassesStops}
use Rattle.proof_lines.proofs.content.content_end.Given as goal

abbrev pub invariant-loop-i : goal.invariant-loop-i
invariant-loop-i l = PassesStops l.i l.tokens
