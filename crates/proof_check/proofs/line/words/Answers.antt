use Rattle.std.proofs.Common.{IfOk, sym, subst, map}
use Rattle.std.specs.Option.{option_map}
use Rattle.answered_lines.specs.View.{answered_lines_of}
use Rattle.answers.specs.AnswerView.{answers_of}
use Rattle.derivation.specs.View.{first_word_of, later_of, content_of}
use Rattle.proof_check.specs.Found.{InferredWithAs, LineAs}
use Rattle.stated_lines.specs.Held.{asked_inputs, rows_with}
use Rattle.proof_check.proofs.line.words.Goals as goal

pub returns-in-Copy : goal.returns-in-Copy
returns-in-Copy c =
    let ls = answered_lines_of c.args.earlier.now in
    let line = c.args.line.now in
    let ws = map later_of line.just.steps.items in
    let content = content_of line.content in
    let us = answers_of line.notes.answers.items in
    subst (λ w. IfOk c.infer_with.result (InferredWithAs ls (first_word_of w) ws content us)
    → IfOk c.infer_with.result (LineAs (asked_inputs c.args.inputs.now) (rows_with c.args.rows.now c.args.answers.now) ls (first_word_of w) ws content (option_map (λ places. places.items) line.notes.asks) us))
    (sym c.in-Copy.is) (λ h. h) c.infer_with.ensures

pub returns-in-BackRewrite : goal.returns-in-BackRewrite
returns-in-BackRewrite c =
    let ls = answered_lines_of c.args.earlier.now in
    let line = c.args.line.now in
    let ws = map later_of line.just.steps.items in
    let content = content_of line.content in
    let us = answers_of line.notes.answers.items in
    subst (λ w. IfOk c.infer_with-in-BackRewrite.result (InferredWithAs ls (first_word_of w) ws content us)
    → IfOk c.infer_with-in-BackRewrite.result (LineAs (asked_inputs c.args.inputs.now) (rows_with c.args.rows.now c.args.answers.now) ls (first_word_of w) ws content (option_map (λ places. places.items) line.notes.asks) us))
    (sym c.in-BackRewrite.is) (λ h. h) c.infer_with-in-BackRewrite.ensures

pub returns-in-BackUnitDel : goal.returns-in-BackUnitDel
returns-in-BackUnitDel c =
    let ls = answered_lines_of c.args.earlier.now in
    let line = c.args.line.now in
    let ws = map later_of line.just.steps.items in
    let content = content_of line.content in
    let us = answers_of line.notes.answers.items in
    subst (λ w. IfOk c.infer_with-in-BackUnitDel.result (InferredWithAs ls (first_word_of w) ws content us)
    → IfOk c.infer_with-in-BackUnitDel.result (LineAs (asked_inputs c.args.inputs.now) (rows_with c.args.rows.now c.args.answers.now) ls (first_word_of w) ws content (option_map (λ places. places.items) line.notes.asks) us))
    (sym c.in-BackUnitDel.is) (λ h. h) c.infer_with-in-BackUnitDel.ensures

pub returns-in-Resolve : goal.returns-in-Resolve
returns-in-Resolve c =
    let ls = answered_lines_of c.args.earlier.now in
    let line = c.args.line.now in
    let ws = map later_of line.just.steps.items in
    let content = content_of line.content in
    let us = answers_of line.notes.answers.items in
    subst (λ w. IfOk c.infer_with-in-Resolve.result (InferredWithAs ls (first_word_of w) ws content us)
    → IfOk c.infer_with-in-Resolve.result (LineAs (asked_inputs c.args.inputs.now) (rows_with c.args.rows.now c.args.answers.now) ls (first_word_of w) ws content (option_map (λ places. places.items) line.notes.asks) us))
    (sym c.in-Resolve.is) (λ h. h) c.infer_with-in-Resolve.ensures

pub returns-in-Hyper : goal.returns-in-Hyper
returns-in-Hyper c =
    let ls = answered_lines_of c.args.earlier.now in
    let line = c.args.line.now in
    let ws = map later_of line.just.steps.items in
    let content = content_of line.content in
    let us = answers_of line.notes.answers.items in
    subst (λ w. IfOk c.infer_with-in-Hyper.result (InferredWithAs ls (first_word_of w) ws content us)
    → IfOk c.infer_with-in-Hyper.result (LineAs (asked_inputs c.args.inputs.now) (rows_with c.args.rows.now c.args.answers.now) ls (first_word_of w) ws content (option_map (λ places. places.items) line.notes.asks) us))
    (sym c.in-Hyper.is) (λ h. h) c.infer_with-in-Hyper.ensures

pub returns-in-Ur : goal.returns-in-Ur
returns-in-Ur c =
    let ls = answered_lines_of c.args.earlier.now in
    let line = c.args.line.now in
    let ws = map later_of line.just.steps.items in
    let content = content_of line.content in
    let us = answers_of line.notes.answers.items in
    subst (λ w. IfOk c.infer_with-in-Ur.result (InferredWithAs ls (first_word_of w) ws content us)
    → IfOk c.infer_with-in-Ur.result (LineAs (asked_inputs c.args.inputs.now) (rows_with c.args.rows.now c.args.answers.now) ls (first_word_of w) ws content (option_map (λ places. places.items) line.notes.asks) us))
    (sym c.in-Ur.is) (λ h. h) c.infer_with-in-Ur.ensures

pub returns-in-Factor : goal.returns-in-Factor
returns-in-Factor c =
    let ls = answered_lines_of c.args.earlier.now in
    let line = c.args.line.now in
    let ws = map later_of line.just.steps.items in
    let content = content_of line.content in
    let us = answers_of line.notes.answers.items in
    subst (λ w. IfOk c.infer_with-in-Factor.result (InferredWithAs ls (first_word_of w) ws content us)
    → IfOk c.infer_with-in-Factor.result (LineAs (asked_inputs c.args.inputs.now) (rows_with c.args.rows.now c.args.answers.now) ls (first_word_of w) ws content (option_map (λ places. places.items) line.notes.asks) us))
    (sym c.in-Factor.is) (λ h. h) c.infer_with-in-Factor.ensures

pub returns-in-Para : goal.returns-in-Para
returns-in-Para c =
    let ls = answered_lines_of c.args.earlier.now in
    let line = c.args.line.now in
    let ws = map later_of line.just.steps.items in
    let content = content_of line.content in
    let us = answers_of line.notes.answers.items in
    subst (λ w. IfOk c.infer_with-in-Para.result (InferredWithAs ls (first_word_of w) ws content us)
    → IfOk c.infer_with-in-Para.result (LineAs (asked_inputs c.args.inputs.now) (rows_with c.args.rows.now c.args.answers.now) ls (first_word_of w) ws content (option_map (λ places. places.items) line.notes.asks) us))
    (sym c.in-Para.is) (λ h. h) c.infer_with-in-Para.ensures

pub returns-in-XxRes : goal.returns-in-XxRes
returns-in-XxRes c =
    let ls = answered_lines_of c.args.earlier.now in
    let line = c.args.line.now in
    let ws = map later_of line.just.steps.items in
    let content = content_of line.content in
    let us = answers_of line.notes.answers.items in
    subst (λ w. IfOk c.infer_with-in-XxRes.result (InferredWithAs ls (first_word_of w) ws content us)
    → IfOk c.infer_with-in-XxRes.result (LineAs (asked_inputs c.args.inputs.now) (rows_with c.args.rows.now c.args.answers.now) ls (first_word_of w) ws content (option_map (λ places. places.items) line.notes.asks) us))
    (sym c.in-XxRes.is) (λ h. h) c.infer_with-in-XxRes.ensures

pub returns-in-Instantiate : goal.returns-in-Instantiate
returns-in-Instantiate c =
    let ls = answered_lines_of c.args.earlier.now in
    let line = c.args.line.now in
    let ws = map later_of line.just.steps.items in
    let content = content_of line.content in
    let us = answers_of line.notes.answers.items in
    subst (λ w. IfOk c.instantiate_with.result (LineAs (asked_inputs c.args.inputs.now) (rows_with c.args.rows.now c.args.answers.now) ls (first_word_of w) ws content (option_map (λ places. places.items) line.notes.asks) us))
    (sym c.in-Instantiate.is) c.instantiate_with.ensures
