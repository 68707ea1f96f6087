-- whether one begins is whether it does from here on
use Rattle.proof_lines.proofs.Noting.{BeginsAt}
use Rattle.proof_lines.proofs.marks.begins_answer.Given as goal

abbrev pub invariant-loop-token : goal.invariant-loop-token
invariant-loop-token l = BeginsAt l.tokens l.token-index l.spot
