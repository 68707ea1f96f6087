use Rattle.derivation.proofs.Contents.{inferred_one}
use Rattle.derivation.proofs.Rows.{word_lawful}
use Rattle.derivation.proofs.laws.content_is_one.Goals as goal

pub returns : goal.returns
returns c = λ ls w i ws d e is one other. inferred_one ls i (word_lawful w i is).0 (word_lawful w i is).1 ws d e one other
