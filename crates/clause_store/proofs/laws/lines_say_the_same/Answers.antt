use Rattle.clause_store.proofs.Kept.{lines_mean, lines_stay}
use Rattle.clause_store.proofs.laws.lines_say_the_same.Goals as goal

pub returns-clause-mean : goal.returns-clause-mean
returns-clause-mean c = lines_mean

pub returns-clause-stay : goal.returns-clause-stay
returns-clause-stay c = lines_stay
