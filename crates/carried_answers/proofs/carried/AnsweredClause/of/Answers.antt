-- The answers stand behind.
use Rattle.std.proofs.Common.{length, sym, ◌∙◌}
use Rattle.std.proofs.lemmas.List.{length-map}
use Rattle.answers.specs.AnswerView.{answer_of, answers_of}
use Rattle.carried_answers.proofs.WholeSteps.{carried_is, ends_with}
use Rattle.carried_answers.proofs.carried.AnsweredClause.of.Goals as goal

pub invariant_of-result : goal.invariant_of-result
invariant_of-result c = ends_with c.in_ok-whole.whole c.args.clause.now (answers_of c.args.answers.now) (length c.args.answers.now) (c.in_ok-whole.ensures ∙ c.in_ok-both.ensures) (sym (length-map c.args.answers.now answer_of))

pub returns : goal.returns
returns c = carried_is c.in_ok-whole.whole c.args.clause.now (answers_of c.args.answers.now) (length c.args.answers.now) (c.in_ok-whole.ensures ∙ c.in_ok-both.ensures) (sym (length-map c.args.answers.now answer_of))
