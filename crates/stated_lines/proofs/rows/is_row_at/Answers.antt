use Rattle.std.proofs.Common.{◌↔◌, IsTrue, subst}
use Rattle.std.specs.Option.{option_map}
use Rattle.answered_lines.specs.Lines.{AnsweredRow, IsRowWith}
use Rattle.answers.specs.AnswerView.{answers_of}
use Rattle.derivation.specs.View.{content_of}
use Rattle.fol_core.specs.FormulaView.{fol_of}
use Rattle.stated_lines.specs.Held.{asked_inputs}
use Rattle.stated_lines.proofs.RowSteps.{row_is}
use Rattle.stated_lines.proofs.rows.is_row_at.Goals as goal

pub returns : goal.returns
returns c =
    subst (λ (r : AnsweredRow). IsTrue c.in_ok-found.found ↔ IsRowWith c.args.goal (fol_of c.args.shape.now) (option_map (λ s. s.now) c.args.asks) (asked_inputs c.args.inputs.now) c.args.number
    (content_of c.args.line.now.content) (answers_of c.args.line.now.notes.answers.items) r)
    (row_is c.args.rows.now c.args.answers.now c.args.place c.index-rows-place.result c.terms_at-terms.result.now c.new-none.result c.requires c.index-rows-place.is c.terms_at-terms.ensures c.new-none.ensures)
    c.in_ok-found.ensures
