use Rattle.std.proofs.Common.{arith, map, sym, ◌∙◌}
use Rattle.std.proofs.lemmas.Bool.{false≢true}
use Rattle.answered_lines.specs.View.{answered_line}
use Rattle.answers.specs.AnswerView.{answers_of}
use Rattle.derivation.specs.View.{later_of, content_of}
use Rattle.stated_lines.specs.Held.{asked_inputs, rows_with}
use Rattle.proof_check.proofs.LineSteps.{no_words, some_words, input_missing, input_apart, input_worded, input_is}
use Rattle.proof_check.proofs.line.input.Goals as goal

pub returns-in_default : goal.returns-in_default
returns-in_default c =
    let line = c.args.line.now in
    input_missing (asked_inputs c.args.inputs.now) (rows_with c.args.rows.now c.args.answers.now) c.args.earlier.now c.args.goal c.args.number (content_of line.content) (answers_of line.notes.answers.items) (map later_of line.just.steps.items)
    c.in_default.ensures

pub returns-then-not-branch : goal.returns-then-not-branch
returns-then-not-branch c =
    let line = c.args.line.now in
    input_apart (asked_inputs c.args.inputs.now) (rows_with c.args.rows.now c.args.answers.now) c.args.earlier.now c.args.goal c.args.number (content_of line.content) (answers_of line.notes.answers.items) (map later_of line.just.steps.items)
    (answered_line c.in-Some.said.now) c.in-Some.ensures.0 c.in-Some.ensures.1 (λ h. false≢true (sym c.if-not-branch.true ∙ c.in_ok-is_clause_of.ensures.1 h))

pub returns-then-not-is_empty : goal.returns-then-not-is_empty
returns-then-not-is_empty c =
    let line = c.args.line.now in
    input_worded (asked_inputs c.args.inputs.now) (rows_with c.args.rows.now c.args.answers.now) c.args.earlier.now c.args.goal c.args.number (content_of line.content) (answers_of line.notes.answers.items) (map later_of line.just.steps.items)
    (answered_line c.in-Some.said.now) c.in-Some.ensures.1 (c.in_ok-is_clause_of.ensures.0 c.if-not-branch.false) (some_words line.just.steps.items line.just.steps.len (omega (arith, line.just.steps.ok.0)) (sym c.is_empty.ensures ∙ c.if-not-is_empty.true))

pub returns : goal.returns
returns c =
    let line = c.args.line.now in
    input_is (asked_inputs c.args.inputs.now) (rows_with c.args.rows.now c.args.answers.now) c.args.earlier.now c.args.goal c.args.number (content_of line.content) (answers_of line.notes.answers.items) (map later_of line.just.steps.items)
    (answered_line c.in-Some.said.now) c.in-Some.ensures.1 (c.in_ok-is_clause_of.ensures.0 c.if-not-branch.false) (no_words line.just.steps.items line.just.steps.len (omega (arith, line.just.steps.ok.0)) (sym c.is_empty.ensures ∙ c.if-not-is_empty.false))
