use Rattle.prover_steps.proofs.Working.{works_out}
use Rattle.prover_steps.proofs.laws.steps_are_worked_out.Goals as goal

pub returns : goal.returns
returns c = works_out c.unifier_concludes.ensures.made c.unifier_concludes.ensures.none c.conclusion_is_one.ensures c.clauses_are_renamed_apart.ensures c.unifiers_are_found.ensures.general c.unifiers_are_found.ensures.there
