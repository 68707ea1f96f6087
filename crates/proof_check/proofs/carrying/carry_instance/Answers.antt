use Rattle.std.proofs.Common.{◌≡◌, ◌↔◌, IsTrue, map, IfOk, sym, ap, ◌∙◌, subst}
use Rattle.std.proofs.lemmas.Bool.{false≢true}
use Rattle.answered_lines.specs.Lines.{AfterWith, answers_of_line, clause_put_in, answers_put_in}
use Rattle.answered_lines.specs.View.{answered_lines_of}
use Rattle.answers.specs.AnswerView.{answers_of}
use Rattle.carried_answers.specs.Carried.{carried}
use Rattle.derivation.specs.View.{later_of, content_of}
use Rattle.fol_core.specs.Literals.{ClauseTree}
use Rattle.proof_check.proofs.CarryingSteps.{instance_gone, instance_told}
use Rattle.proof_check.proofs.carrying.carry_instance.Goals as goal

pub returns-in_default : goal.returns-in_default
returns-in_default c =
    let line = c.args.line.now in
    (λ e. absurd (false≢true e), λ h. absurd (instance_gone c.args.earlier.now (content_of line.content) (answers_of line.notes.answers.items) c.args.number c.args.values.now (map later_of line.just.steps.items) c.in_default.ensures h))

pub returns : goal.returns
returns c =
    let all = answered_lines_of c.args.earlier.now in
    let line = c.args.line.now in
    let n = c.args.number in
    let es = c.args.values.now in
    let clause = c.in-Some.clause.now in
    let a = c.in_ok-carried.carried in
    let content = content_of line.content in
    let us = answers_of line.notes.answers.items in
    let own : answers_of c.answers_of_number-own.result.now ≡ answers_of_line all n = c.answers_of_number-own.ensures in
    let instance : c.in_ok-instance.instance ≡ clause_put_in es clause (answers_of_line all n) = c.in_ok-instance.ensures.clause ∙ ap (clause_put_in es clause) own in
    let answers : answers_of c.as_slice.result.now ≡ answers_put_in es clause (answers_of_line all n) = ap answers_of c.as_slice.ensures.value ∙ c.in_ok-instance.ensures.answers ∙ ap (answers_put_in es clause) own in
    let of : a ≡ carried c.in_ok-instance.instance (answers_of c.as_slice.result.now) = c.in_ok-carried.ensures in
    let made : a ≡ carried (clause_put_in es clause (answers_of_line all n)) (answers_put_in es clause (answers_of_line all n)) =
    of ∙ ap (λ (d : ClauseTree). carried d (answers_of c.as_slice.result.now)) instance ∙ ap (carried (clause_put_in es clause (answers_of_line all n))) answers in
    let after : IfOk c.carry.result (λ t. IsTrue t ↔ AfterWith all (map later_of c.as_slice-2.result.now) a.clause a.answers content us) = c.carry.ensures in
    instance_told c.args.earlier.now content us n es (map later_of line.just.steps.items) clause a c.carry.result c.in-Some.ensures made
    (subst (λ vs. IfOk c.carry.result (λ t. IsTrue t ↔ AfterWith all (map later_of vs) a.clause a.answers content us)) c.as_slice-2.ensures.value after)
