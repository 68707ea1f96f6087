use Rattle.std.proofs.lemmas.Bool.{false≢true}
use Rattle.answers.specs.AnswerView.{answers_of}
use Rattle.stated_lines.proofs.AnswerSteps.{plainly_apart}
use Rattle.stated_lines.proofs.comparing.is_same.Goals as goal

pub returns-then-not-may_be_same : goal.returns-then-not-may_be_same
returns-then-not-may_be_same c = (
  λ h. absurd (false≢true h),
  λ same. absurd (plainly_apart c.args.own.now c.args.other.now (answers_of c.args.own_answers.now) (answers_of c.args.other_answers.now) c.may_be_same.result c.may_be_same.ensures c.if-not-may_be_same.true same),
)
