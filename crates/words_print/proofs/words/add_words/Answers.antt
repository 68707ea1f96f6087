use Rattle.std.proofs.Common.{List, ◌++◌, map, false, ap, ◌∙◌}
use Rattle.derivation.specs.View.{later_of}
use Rattle.derivation.specs.declared.words.Later.{Later}
use Rattle.proof_words.specs.Written.{written_first}
use Rattle.words_print.specs.WordTokens.{first_tokens, further_tokens, joint_text}
use Rattle.words_print.proofs.Joints.{words_are}
use Rattle.words_print.proofs.words.add_words.Goals as goal

pub returns : goal.returns
returns c =
    words_are _ _ _ _ (first_tokens (written_first c.args.just.now.first)) (further_tokens false (map later_of c.args.just.now.steps.items)) c.in_ok-extend_from_slice.ensures.items
    c.in_ok-first_word.ensures
    (c.in_ok-further.ensures ∙ ap (λ (ls : List Later). c.first_word.new.out.items ++ joint_text (further_tokens false (map later_of ls))) c.deref.ensures.value)
