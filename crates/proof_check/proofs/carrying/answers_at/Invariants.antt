-- The answers of the first numbers are found.
use Rattle.std.proofs.Common.{◌≡◌, take}
use Rattle.answered_lines.specs.Lines.{answers_at}
use Rattle.answered_lines.specs.View.{answered_lines_of}
use Rattle.carried_answers.specs.Carried.{lent_answers}
use Rattle.proof_check.proofs.carrying.answers_at.Given as goal

abbrev pub invariant-loop-number : goal.invariant-loop-number
invariant-loop-number l = lent_answers l.found.items ≡ answers_at (answered_lines_of l.earlier) (take l.number-index l.numbers)
