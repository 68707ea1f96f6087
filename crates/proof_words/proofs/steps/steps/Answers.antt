use Rattle.std.proofs.Common.{◌∙◌, map}
use Rattle.derivation.specs.View.{later_of}
use Rattle.proof_words.specs.Written.{written}
use Rattle.proof_words.proofs.steps.steps.Goals as goal

pub returns-in-Err-clause-bad : goal.returns-in-Err-clause-bad
returns-in-Err-clause-bad c = λ e w. rw c.new-steps.ensures.items at (c.in-Err.ensures.bad (cc) w)

pub returns-in-Err-stop-clause-bad : goal.returns-in-Err-stop-clause-bad
returns-in-Err-stop-clause-bad c = λ e w.
    (rw c.new-steps.ensures.items at (c.in-Ok.ensures.ok w)) ∙ c.in-Err-stop.ensures.bad (cc) (written w (map later_of c.all_further.new.steps.items))
