use Rattle.clausify.proofs.WholeLaws.{all_follow}
use Rattle.clausify.proofs.laws.clauses_follow.Goals as goal

pub returns : goal.returns
returns c = λ m lawful symbols ss well_formed picks as_roled. all_follow m lawful symbols 1 0 ss well_formed picks as_roled
