use Rattle.printed_proofs.proofs.ReadingBehind.{read_behind}
use Rattle.printed_proofs.proofs.laws.terms_are_read_behind.Goals as goal

pub returns : goal.returns
returns _ = read_behind
