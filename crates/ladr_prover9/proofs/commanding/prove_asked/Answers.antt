-- Where memory is lacking for a prover, nothing is printed.
use Rattle.std.proofs.lemmas.Result.{err_from_is_err_and}
use Rattle.ladr_prover9.proofs.Telling.{nothing}
use Rattle.ladr_prover9.proofs.commanding.prove_asked.Goals as goal
use Rattle.ladr_prover9.specs.Askings.{quest_of}

pub returns-in_err-prover : goal.returns-in_err-prover
returns-in_err-prover g c =
    let p = err_from_is_err_and c.from_residual.result c.from_residual.ensures.1 in
    rw (p.1, p.2) (nothing (quest_of c.args.asking.now) c.args.seconds (g.C.Clock.times c.args.clock.now) _ c.requires.unread)
