use Rattle.prover_steps.proofs.Sound.{reached_sound}
use Rattle.prover_steps.proofs.laws.searches_are_sound.Goals as goal

pub returns : goal.returns
returns c = λ ss rows base st s t keeps begins reaches.
    reached_sound c.steps_are_worked_out.ensures c.clauses_are_decided.ensures.numbers c.matches_are_found.ensures.make ss rows base st keeps s t begins reaches.0 reaches.1
