-- The rows from here on decide.
use Rattle.std.specs.Option.{option_map}
use Rattle.answered_lines.specs.Lines.{IsRowWith}
use Rattle.answers.specs.AnswerView.{answers_of}
use Rattle.derivation.specs.View.{content_of}
use Rattle.fol_core.specs.FormulaView.{fol_of}
use Rattle.stated_lines.specs.Held.{asked_inputs}
use Rattle.stated_lines.proofs.RowSteps.{Rowed}
use Rattle.stated_lines.proofs.rows.is_input.Given as goal

abbrev pub invariant-loop-place : goal.invariant-loop-place
invariant-loop-place l =
    Rowed (IsRowWith l.goal (fol_of l.shape) (option_map (λ s. s.now) l.asks) (asked_inputs l.inputs) l.number (content_of l.line.content) (answers_of l.line.notes.answers.items)) l.rows l.answers l.place
