use Rattle.ladr_cells.proofs.Solving.{solution_says, model_solves}
use Rattle.ladr_cells.proofs.laws.solutions_are_models.Goals as goal

pub returns-clause-says : goal.returns-clause-says
returns-clause-says c = λ p n way well few. solution_says p n way well few c.clauses_suffice.ensures

pub returns-clause-each : goal.returns-clause-each
returns-clause-each c = λ p n way well few. model_solves p n way well few c.clauses_follow.ensures
