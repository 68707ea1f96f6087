use Rattle.std.proofs.Common.{refl}
use Rattle.std.specs.Option.{option_map}
use Rattle.answered_lines.specs.Lines.{IsRowWith}
use Rattle.answers.specs.AnswerView.{answers_of}
use Rattle.derivation.specs.View.{content_of}
use Rattle.fol_core.specs.FormulaView.{fol_of}
use Rattle.stated_lines.specs.Held.{asked_inputs}
use Rattle.stated_lines.proofs.RowSteps.{row_there}
use Rattle.stated_lines.proofs.rows.is_input_from.Goals as goal

pub returns-then-branch : goal.returns-then-branch
returns-then-branch c =
    let P = IsRowWith c.args.goal (fol_of c.args.shape.now) (option_map (λ s. s.now) c.args.asks) (asked_inputs c.args.inputs.now) c.args.number (content_of c.args.line.now.content) (answers_of c.args.line.now.notes.answers.items) in
    (λ _. row_there P c.args.rows.now c.args.answers.now c.args.place c.if-place-rows.true (c.in_ok-is_row_at.ensures.0 c.if-branch.true), λ _. refl)
