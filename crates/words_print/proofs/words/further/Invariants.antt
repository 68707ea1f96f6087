-- The text so far, and that of the words to come behind the one before, is that of all.
use Rattle.std.proofs.Common.{◌≡◌, ◌++◌, false, drop, map}
use Rattle.derivation.specs.View.{later_of}
use Rattle.words_print.specs.WordTokens.{further_tokens, joint_text}
use Rattle.words_print.proofs.words.further.Given as goal

abbrev pub invariant-loop-step : goal.invariant-loop-step
invariant-loop-step l =
    l.out.items ++ joint_text (further_tokens l.inside (map later_of (drop l.step-index l.steps)))
    ≡ l.fn.out.items ++ joint_text (further_tokens false (map later_of l.steps))
