-- With as many answers it is the same whole.
use Rattle.std.proofs.Common.{sym, ◌∙◌}
use Rattle.std.proofs.lemmas.List.{length-map}
use Rattle.answers.specs.AnswerView.{answer_of, answers_of}
use Rattle.carried_answers.proofs.CompareSteps.{is_other, result_same}
use Rattle.carried_answers.proofs.comparing.is_whole.Goals as goal

pub returns-then-answers-behind : goal.returns-then-answers-behind
returns-then-answers-behind c = is_other c.args.clause.now c.args.whole.now (answers_of c.args.answers.now) c.args.behind c.requires (λ e. c.if-answers-behind.true (sym (length-map c.args.answers.now answer_of) ∙ e))

pub returns : goal.returns
returns c = result_same c.is_shared.result c.args.clause.now c.args.whole.now c.in_ok-given.given (answers_of c.args.answers.now) c.args.behind c.requires (length-map c.args.answers.now answer_of ∙ c.if-answers-behind.false) c.in_ok-given.ensures c.is_shared.ensures
