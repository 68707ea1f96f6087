use Rattle.std.proofs.Common.{ap}
use Rattle.std.specs.Option.{option_map}
use Rattle.answered_lines.specs.View.{answered_line}
use Rattle.answers.specs.AnswerView.{answers_of}
use Rattle.derivation.specs.View.{content_of}
use Rattle.fol_core.specs.FormulaView.{fol_of}
use Rattle.stated_lines.specs.Held.{asked_inputs, rows_with}
use Rattle.stated_lines.proofs.RowSteps.{input_where}
use Rattle.stated_lines.proofs.rows.is_clause_of.Goals as goal

pub returns-in_ok-found-in-Formula : goal.returns-in_ok-found-in-Formula
returns-in_ok-found-in-Formula c =
    input_where (asked_inputs c.args.inputs.now) (rows_with c.args.rows.now c.args.answers.now) (answered_line c.args.said.now) c.args.goal (content_of c.args.line.now.content) (answers_of c.args.line.now.notes.answers.items)
    (fol_of c.in-Formula.formula.shape) (option_map (λ s. s.now) c.counted-asks.result) c.in_ok-found-in-Formula.found (ap content_of c.in-Formula.is) (c.states.ensures.0 c.if-not-states.false) c.counted-asks.ensures c.in_ok-found-in-Formula.ensures
