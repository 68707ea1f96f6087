use Rattle.proof_print.proofs.AnswersRead.{answered_read}
use Rattle.proof_print.proofs.laws.answered_clauses_read_back.Goals as goal

pub returns : goal.returns
returns _ = λ rows prolog problem table c us can p. answered_read rows prolog problem table can c us p
