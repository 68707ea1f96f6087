-- The rule's left side.
use Rattle.std.proofs.Common.{◌∙◌}
use Rattle.answers.specs.AnswerView.{answers_of}
use Rattle.carried_answers.specs.Brought.{BringsBehind, IsUsedAt}
use Rattle.carried_answers.specs.Carried.{lent_answers}
use Rattle.carried_answers.proofs.BringSteps.{on_ok, one_list, rule_alone, rule_brings}
use Rattle.carried_answers.proofs.bringing.bring_rule.Goals as goal
use Rattle.derivation.specs.Later.{rewritten}
use Rattle.fol_core.specs.TermView.{tree_of}
use Rattle.inference.specs.Lent.{lent_clauses}
use Rattle.inference.proofs.JudgeSteps.{one_parent}

pub returns-then-parents-ne1 : goal.returns-then-parents-ne1
returns-then-parents-ne1 c = λ n. rule_alone c.args.whole.now n c.args.a c.args.path.now c.args.parents.now (lent_answers c.args.answers.now) c.if-parents-ne1.true

pub returns-in-Some : goal.returns-in-Some
returns-in-Some c = λ n.
    on_ok c.bring_by.result
    (IsUsedAt c.args.whole.now c.args.a c.args.path.now (tree_of c.in-Some.left.now) (answers_of c.index-answers-0.result.now) c.bring_by.new.whole)
    (BringsBehind (rewritten n c.args.a c.args.path.now) c.args.whole.now (lent_clauses c.args.parents.now) (lent_answers c.args.answers.now) c.bring_by.new.whole)
    (λ used. rule_brings c.args.whole.now c.index-parents-0.result.now c.bring_by.new.whole (tree_of c.in-Some.left.now) (tree_of c.in-Some.field-0-1.now) n c.args.a c.args.path.now (answers_of c.index-answers-0.result.now) (lent_clauses c.args.parents.now) (lent_answers c.args.answers.now)
    (one_parent c.args.parents.now c.index-parents-0.result c.if-parents-ne1.false c.index-parents-0.is)
    (one_list c.args.answers.now c.index-answers-0.result (c.requires.many ∙ c.if-parents-ne1.false) c.index-answers-0.is)
    c.in-Some.ensures used)
    c.bring_by.ensures
