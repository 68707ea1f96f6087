use Rattle.fol_core.proofs.Putting.{put_made}
use Rattle.substitutions.specs.Bindings.{by_bindings}
use Rattle.answers.proofs.answer.apply_all.Goals as goal

pub returns : goal.returns
returns c = put_made (by_bindings c.args.subst.now) c.args.terms.now c.loop-term.term-index c.loop-term.made c.loop-term-test.false c.loop-term.invariant
