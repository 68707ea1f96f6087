use Rattle.std.proofs.Common.{◌↔◌, ◌∙◌, List, IsTrue, ap, sym, subst}
use Rattle.std.specs.Option.{option_map}
use Rattle.answered_lines.specs.Lines.{answered_row, IsClauseWith}
use Rattle.answers.specs.AnswerView.{answers_of}
use Rattle.answers.specs.declared.answer.Answer.{Answer}
use Rattle.derivation.specs.View.{content_of}
use Rattle.fol_core.specs.FormulaView.{fol_of}
use Rattle.fol_core.specs.Tree.{trees_of}
use Rattle.stated_lines.specs.Held.{asked_input, asked_inputs}
use Rattle.stated_lines.proofs.RowSteps.{row_clause}
use Rattle.stated_lines.proofs.rows.is_row.Goals as goal

pub returns : goal.returns
returns c =
    let own = content_of c.args.line.now.content in
    let same = c.in_ok-same.same in
    let with_items = subst (λ (us : List Answer). IsTrue same ↔ IsClauseWith own (answers_of us) c.args.row.now.1 (answers_of c.in_ok-answers.answers.items)) c.as_slice-own.ensures.value
    (subst (λ (bs : List Answer). IsTrue same ↔ IsClauseWith own (answers_of c.as_slice-own.result.now) c.args.row.now.1 (answers_of bs)) c.deref.ensures.value c.in_ok-same.ensures) in
    row_clause c.args.goal (fol_of c.args.shape.now) (option_map (λ s. s.now) c.args.asks) (asked_inputs c.args.inputs.now) c.args.number (content_of c.args.line.now.content)
    (answers_of c.args.line.now.notes.answers.items) (answered_row c.args.row.now (trees_of c.args.terms.now)) (asked_input c.in-Some.input.now) (answers_of c.in_ok-answers.answers.items) c.in_ok-same.same
    (ap (option_map (λ i. asked_input i.now)) (sym c.in-Some.is) ∙ c.input_of.ensures) (c.is_said.ensures.0 c.if-not-is_said.false) c.in_ok-answers.ensures with_items
