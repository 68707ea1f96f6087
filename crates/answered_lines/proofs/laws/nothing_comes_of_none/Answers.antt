use Rattle.answered_lines.proofs.Contents.{nothing_inferred, nothing_put_in}
use Rattle.answered_lines.proofs.laws.nothing_comes_of_none.Goals as goal

pub returns-clause-inferred : goal.returns-clause-inferred
returns-clause-inferred _ = nothing_inferred

pub returns-clause-instance : goal.returns-clause-instance
returns-clause-instance _ = nothing_put_in
