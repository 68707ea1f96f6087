use Rattle.clausify.specs.Names.{letter_numbered}
use Rattle.clausify.proofs.NameLemmas.{relation_named}
use Rattle.clausify.proofs.laws.own_table.Goals as goal

pub returns : goal.returns
returns c = λ table r letter n few kind skolem is. relation_named table r (letter_numbered letter n) kind is
