use Rattle.derivation.proofs.Rows.{word_lawful}
use Rattle.derivation.proofs.Spread.{concludes_apart, none_apart}
use Rattle.derivation.proofs.laws.unifier_concludes.Goals as goal

pub returns-clause-made : goal.returns-clause-made
returns-clause-made c = λ w i cs apart s is renamed fits. concludes_apart i.rule (word_lawful w i is).0 (word_lawful w i is).1 cs apart renamed fits s

pub returns-clause-none : goal.returns-clause-none
returns-clause-none c = λ w i cs apart is renamed fits. none_apart i.rule (word_lawful w i is).0 (word_lawful w i is).1 cs apart renamed fits
