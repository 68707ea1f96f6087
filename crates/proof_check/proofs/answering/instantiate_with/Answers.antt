use Rattle.std.proofs.Common.{Some, None, map, sym, ◌∙◌, subst}
use Rattle.std.proofs.lemmas.Bool.{false≢true}
use Rattle.derivation.specs.View.{later_of, content_of, lines_of}
use Rattle.proof_check.proofs.AnsweringSteps.{instance_plainly, instance_apart}
use Rattle.proof_check.specs.Found.{InstanceAs}
use Rattle.proof_check.proofs.answering.instantiate_with.Goals as goal

pub returns-in-Some : goal.returns-in-Some
returns-in-Some c =
    let ls = c.args.earlier.now in
    let line = c.args.line.now in
    let ws = map later_of line.just.steps.items in
    let content = content_of line.content in
    let found : InstanceAs (lines_of ls) c.args.number c.args.values.now (map later_of c.as_slice-words.result.now) content c.in_ok-row.field-0 = c.in_ok-row.ensures in
    instance_plainly ls ws c.args.number c.args.values.now content line.notes.answers.items c.in-Some.row
    (subst (λ o. InstanceAs (lines_of ls) c.args.number c.args.values.now ws content o) c.in-Some.is
    (subst (λ vs. InstanceAs (lines_of ls) c.args.number c.args.values.now (map later_of vs) content c.in_ok-row.field-0) c.as_slice-words.ensures.value found))

pub returns-else-branch : goal.returns-else-branch
returns-else-branch c =
    let ls = c.args.earlier.now in
    let line = c.args.line.now in
    let ws = map later_of line.just.steps.items in
    let content = content_of line.content in
    let found : InstanceAs (lines_of ls) c.args.number c.args.values.now (map later_of c.as_slice-words.result.now) content c.in_ok-row.field-0 = c.in_ok-row.ensures in
    instance_apart ls ws c.args.number c.args.values.now content line.notes.answers.items
    (subst (λ o. InstanceAs (lines_of ls) c.args.number c.args.values.now ws content o) c.in-None.is
    (subst (λ vs. InstanceAs (lines_of ls) c.args.number c.args.values.now (map later_of vs) content c.in_ok-row.field-0) c.as_slice-words.ensures.value found))
    (λ h. false≢true (sym c.if-branch.false ∙ c.in_ok-are_put_in-in-None.ensures.1 h))
