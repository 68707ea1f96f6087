use Rattle.std.proofs.Common.{Bool, ◌++◌, ap, ◌∙◌}
use Rattle.derivation.specs.View.{later_of}
use Rattle.words_print.specs.WordTokens.{is_rewriting, later_tokens, between_words, joint_text}
use Rattle.words_print.proofs.Joints.{with_both}
use Rattle.words_print.proofs.words.further_word.Goals as goal

pub returns : goal.returns
returns c =
    with_both _ _ _ (between_words c.args.inside (is_rewriting (later_of c.args.step.now))) (later_tokens (later_of c.args.step.now))
    (c.in_ok-between_words.ensures ∙ ap (λ (b : Bool). c.args.out.now.items ++ joint_text (between_words c.args.inside b)) c.is_rewriting.ensures) c.in_ok-later_word.ensures
