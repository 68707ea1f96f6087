use Rattle.clausify.proofs.WholeLaws.{all_suffice}
use Rattle.clausify.proofs.laws.clauses_suffice.Goals as goal

pub returns : goal.returns
returns c = λ m lawful symbols ss well_formed rows. all_suffice m lawful symbols 1 0 ss well_formed rows
