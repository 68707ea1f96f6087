use Rattle.answered_lines.proofs.Conclusions.{one_conclusion_with}
use Rattle.answered_lines.proofs.Contents.{inferred_one_with}
use Rattle.answered_lines.proofs.laws.conclusion_is_one_with.Goals as goal
use Rattle.derivation.proofs.Rows.{word_lawful}

pub returns-clause-conclusion : goal.returns-clause-conclusion
returns-clause-conclusion _ = λ w i cs answers c d us vs is fits one other. one_conclusion_with i.rule (word_lawful w i is).0 (word_lawful w i is).1 cs answers c d us vs fits one other

pub returns-clause-content : goal.returns-clause-content
returns-clause-content _ = λ ls w i ws c d us vs is one other. inferred_one_with ls i (word_lawful w i is).0 (word_lawful w i is).1 ws c d us vs one other
