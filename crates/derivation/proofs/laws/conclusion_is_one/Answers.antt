use Rattle.derivation.proofs.Conclusions.{one_conclusion}
use Rattle.derivation.proofs.Rows.{word_lawful}
use Rattle.derivation.proofs.laws.conclusion_is_one.Goals as goal

pub returns : goal.returns
returns c = λ w i ps d e is fits concludes again. one_conclusion i.rule (word_lawful w i is).0 (word_lawful w i is).1 ps d e fits concludes again
