use Rattle.answered_lines.proofs.Conclusions.{family_apart_with, concludes_apart_with, wholes_apart, interleaved_apart}
use Rattle.answered_lines.proofs.laws.unifier_concludes_with.Goals as goal
use Rattle.derivation.proofs.Rows.{word_lawful}

pub returns-clause-family : goal.returns-clause-family
returns-clause-family _ = λ w i cs answers apart s is renamed fits general. family_apart_with i.rule (word_lawful w i is).0 (word_lawful w i is).1 cs answers apart s renamed fits general

pub returns-clause-made : goal.returns-clause-made
returns-clause-made _ = λ w i cs answers apart s is renamed fits general. concludes_apart_with i.rule (word_lawful w i is).0 (word_lawful w i is).1 cs answers apart s renamed fits general

pub returns-clause-apart : goal.returns-clause-apart
returns-clause-apart _ = wholes_apart

pub returns-clause-interleaved : goal.returns-clause-interleaved
returns-clause-interleaved _ = interleaved_apart
