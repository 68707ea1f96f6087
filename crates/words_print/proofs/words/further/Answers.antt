use Rattle.words_print.proofs.Joints.{further_preserved}
use Rattle.words_print.proofs.words.further.Goals as goal

pub loop-step-preserved : goal.loop-step-preserved
loop-step-preserved c =
    further_preserved _ _ _ _ _ c.args.steps.now _ c.step-item.result c.loop-step-test.true c.step-item.is c.loop-step.invariant c.in_ok-further_word.ensures c.is_rewriting-inside.ensures
