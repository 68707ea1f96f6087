-- The unit's literal.
use Rattle.std.proofs.Common.{[], ◌∙◌}
use Rattle.answers.specs.AnswerView.{answers_of}
use Rattle.carried_answers.specs.Brought.{BringsBehind, IsUsedAt}
use Rattle.carried_answers.specs.Carried.{lent_answers}
use Rattle.carried_answers.proofs.BringSteps.{on_ok, one_list, unit_brings}
use Rattle.carried_answers.proofs.bringing.bring_unit.Goals as goal
use Rattle.derivation.specs.Later.{unit_deleted}
use Rattle.fol_core.specs.ClauseView.{literal_of}
use Rattle.fol_core.specs.TermView.{tree_of}
use Rattle.inference.specs.Lent.{lent_clauses}
use Rattle.inference.proofs.JudgeSteps.{one_parent}

pub returns-in-Some : goal.returns-in-Some
returns-in-Some c = λ n.
    on_ok c.bring_by.result
    (IsUsedAt c.args.whole.now c.args.a [] (tree_of c.in-Some.literal.now.atom) (answers_of c.index-answers-0.result.now) c.bring_by.new.whole)
    (BringsBehind (unit_deleted c.args.a n) c.args.whole.now (lent_clauses c.args.parents.now) (lent_answers c.args.answers.now) c.bring_by.new.whole)
    (λ used. unit_brings c.args.whole.now c.index-parents-0.result.now c.bring_by.new.whole (literal_of c.in-Some.literal.now) c.args.a n (answers_of c.index-answers-0.result.now) (lent_clauses c.args.parents.now) (lent_answers c.args.answers.now)
    (one_parent c.args.parents.now c.index-parents-0.result c.if-parents-ne1.false c.index-parents-0.is)
    (one_list c.args.answers.now c.index-answers-0.result (c.requires.many ∙ c.if-parents-ne1.false) c.index-answers-0.is)
    c.in-Some.ensures used)
    c.bring_by.ensures
