-- As it is made.
use Rattle.std.proofs.Common.{List, ◌∙◌}
use Rattle.std.specs.Borrow.{Bor}
use Rattle.std.proofs.lemmas.List.{length-map}
use Rattle.answers.specs.AnswerView.{answers_of}
use Rattle.answers.specs.declared.answer.Answer as code
use Rattle.carried_answers.specs.Carried.{lent_answers}
use Rattle.carried_answers.proofs.carried.AnsweredClause.first.Goals as goal

pub returns-in-Some : goal.returns-in-Some
returns-in-Some c = (rw c.in-Some.is at (c.in_ok-apply_with.ensures (lent_answers c.args.answers.now) (length-map c.args.answers.now (λ (us : Bor (List code.Answer)). answers_of us.now) ∙ c.requires) c.in_ok-packed.ensures)).1
