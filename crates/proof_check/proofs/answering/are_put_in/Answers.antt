use Rattle.std.proofs.Common.{arith, map, refl, sym, ◌∙◌, subst}
use Rattle.std.specs.List.{flat_map}
use Rattle.std.proofs.lemmas.Bool.{false≢true}
use Rattle.answered_lines.specs.Laws.{AnswerNothing}
use Rattle.answered_lines.specs.View.{answered_lines_of}
use Rattle.derivation.specs.Later.{later_parents}
use Rattle.derivation.specs.View.{later_of, content_of}
use Rattle.proof_check.proofs.AnsweringSteps.{no_answers, some_answers, instance_silent, instance_loud}
use Rattle.proof_check.proofs.answering.are_put_in.Goals as goal

pub returns-then-is_empty : goal.returns-then-is_empty
returns-then-is_empty c =
    let line = c.args.line.now in
    let quiet : AnswerNothing (answered_lines_of c.args.earlier.now) (flat_map later_parents (map later_of line.just.steps.items)) =
    subst (λ vs. AnswerNothing (answered_lines_of c.args.earlier.now) (flat_map later_parents (map later_of vs))) c.as_slice.ensures.value (c.in_ok-words_bring_nothing.ensures c.if-not-branch.false) in (
      λ _. instance_silent c.args.earlier.now (map later_of line.just.steps.items) c.args.number c.args.values.now (content_of line.content) line.notes.answers.items c.nothing_comes_of_none.ensures.instance c.requires.plain
          (c.has_no_answers.ensures c.if-not-has_no_answers.false) quiet (no_answers line.notes.answers.items line.notes.answers.len (omega (arith, line.notes.answers.ok.0)) (sym c.is_empty.ensures ∙ c.if-is_empty.true)),
      λ _. refl,
    )

pub returns-else-is_empty : goal.returns-else-is_empty
returns-else-is_empty c =
    let line = c.args.line.now in
    let quiet : AnswerNothing (answered_lines_of c.args.earlier.now) (flat_map later_parents (map later_of line.just.steps.items)) =
    subst (λ vs. AnswerNothing (answered_lines_of c.args.earlier.now) (flat_map later_parents (map later_of vs))) c.as_slice.ensures.value (c.in_ok-words_bring_nothing.ensures c.if-not-branch.false) in (
      λ e. absurd (false≢true e),
      λ h. absurd (instance_loud c.args.earlier.now (map later_of line.just.steps.items) c.args.number c.args.values.now (content_of line.content) line.notes.answers.items c.nothing_comes_of_none.ensures.instance c.requires.plain
          (c.has_no_answers.ensures c.if-not-has_no_answers.false) quiet (some_answers line.notes.answers.items line.notes.answers.len (omega (arith, line.notes.answers.ok.0)) (sym c.is_empty.ensures ∙ c.if-is_empty.false)) h),
    )
