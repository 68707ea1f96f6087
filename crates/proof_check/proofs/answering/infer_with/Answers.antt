use Rattle.std.proofs.Common.{Some, None, map, sym, ◌∙◌, subst}
use Rattle.std.proofs.lemmas.Bool.{false≢true}
use Rattle.derivation.specs.View.{first_word_of, later_of, content_of, lines_of}
use Rattle.proof_check.proofs.AnsweringSteps.{inferred_plainly, inferred_apart}
use Rattle.proof_check.specs.Found.{InferredAs}
use Rattle.proof_check.proofs.answering.infer_with.Goals as goal

pub returns-in-Some : goal.returns-in-Some
returns-in-Some c =
    let ls = c.args.earlier.now in
    let line = c.args.line.now in
    let ws = map later_of line.just.steps.items in
    let w = first_word_of line.just.first in
    let content = content_of line.content in
    let found : InferredAs (lines_of ls) w ws content c.in_ok-row.field-0 = c.in_ok-row.ensures in
    inferred_plainly ls ws w content line.notes.answers.items c.in-Some.row (subst (λ o. InferredAs (lines_of ls) w ws content o) c.in-Some.is found)

pub returns-else-branch : goal.returns-else-branch
returns-else-branch c =
    let ls = c.args.earlier.now in
    let line = c.args.line.now in
    let ws = map later_of line.just.steps.items in
    let w = first_word_of line.just.first in
    let content = content_of line.content in
    let found : InferredAs (lines_of ls) w ws content c.in_ok-row.field-0 = c.in_ok-row.ensures in
    inferred_apart ls ws w content line.notes.answers.items (subst (λ o. InferredAs (lines_of ls) w ws content o) c.in-None.is found) (λ h. false≢true (sym c.if-branch.false ∙ c.in_ok-are_inferred-in-None.ensures.1 h))
