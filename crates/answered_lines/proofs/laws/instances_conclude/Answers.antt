use Rattle.answered_lines.proofs.Conclusions.{instances_conclude}
use Rattle.answered_lines.proofs.laws.instances_conclude.Goals as goal

pub returns : goal.returns
returns _ = instances_conclude
