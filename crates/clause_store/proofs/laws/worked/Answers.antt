use Rattle.std.proofs.Common.{◌∷◌, [], refl}
use Rattle.clause_store.proofs.laws.worked.Goals as goal

pub returns-clause-ancestors : goal.returns-clause-ancestors
returns-clause-ancestors c = (([], refl), (6 ∷ 7 ∷ [], ((refl, refl), refl)))
