use Rattle.answered_lines.proofs.MovedAnswers.{refutation_moved_with}
use Rattle.answered_lines.proofs.ReadAnswers.{refutation_read_with}
use Rattle.answered_lines.proofs.laws.refutations_are_moved_with.Goals as goal

pub returns-clause-moved : goal.returns-clause-moved
returns-clause-moved _ = refutation_moved_with

pub returns-clause-read : goal.returns-clause-read
returns-clause-read _ = refutation_read_with
