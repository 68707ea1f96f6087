-- the answer for the rest is that for all
use Rattle.std.proofs.Common.{◌≡◌, drop}
use Rattle.proof_lines.specs.Answered.{answer_views, are_shallow_answers}
use Rattle.proof_lines.proofs.answered.are_shallow_answers.Given as goal

abbrev pub invariant-loop-answer : goal.invariant-loop-answer
invariant-loop-answer l =
    are_shallow_answers (answer_views (drop l.answer-index l.answers)) ≡ are_shallow_answers (answer_views l.answers)
