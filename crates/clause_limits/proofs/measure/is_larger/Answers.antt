use Rattle.std.proofs.Common.{◌∙◌}
use Rattle.clause_limits.proofs.Few.{few_enough}
use Rattle.clause_limits.proofs.measure.is_larger.Goals as goal

pub returns-in-Some : goal.returns-in-Some
returns-in-Some c = few_enough c.args.clause.now c.args.levels c.args.symbols _ (c.in-Some.ensures ∙ c.min.ensures)
