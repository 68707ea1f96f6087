use Rattle.std.proofs.Common.{arith, map, refl, sym, ◌∙◌}
use Rattle.std.proofs.lemmas.Bool.{false≢true}
use Rattle.derivation.specs.View.{first_word_of, later_of, content_of}
use Rattle.proof_check.proofs.AnsweringSteps.{no_answers, some_answers, inferred_silent, inferred_loud}
use Rattle.proof_check.proofs.answering.are_inferred.Goals as goal

pub returns-then-is_empty : goal.returns-then-is_empty
returns-then-is_empty c =
    let line = c.args.line.now in (
      λ _. inferred_silent c.args.earlier.now (map later_of line.just.steps.items) (first_word_of line.just.first) (content_of line.content) line.notes.answers.items c.nothing_comes_of_none.ensures.inferred c.requires.rule c.requires.plain
          (c.in_ok-parents_bring_nothing.ensures c.if-not-branch.false) (no_answers line.notes.answers.items line.notes.answers.len (omega (arith, line.notes.answers.ok.0)) (sym c.is_empty.ensures ∙ c.if-is_empty.true)),
      λ _. refl,
    )

pub returns-else-is_empty : goal.returns-else-is_empty
returns-else-is_empty c =
    let line = c.args.line.now in (
      λ e. absurd (false≢true e),
      λ h. absurd (inferred_loud c.args.earlier.now (map later_of line.just.steps.items) (first_word_of line.just.first) (content_of line.content) line.notes.answers.items c.nothing_comes_of_none.ensures.inferred c.requires.rule c.requires.plain
          (c.in_ok-parents_bring_nothing.ensures c.if-not-branch.false) (some_answers line.notes.answers.items line.notes.answers.len (omega (arith, line.notes.answers.ok.0)) (sym c.is_empty.ensures ∙ c.if-is_empty.false)) h),
    )
