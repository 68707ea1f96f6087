use Rattle.answered_lines.proofs.Contents.{match_brings, new_above}
use Rattle.answered_lines.proofs.laws.matches_bring_answers.Goals as goal

pub returns-clause-brought : goal.returns-clause-brought
returns-clause-brought _ = match_brings

pub returns-clause-new : goal.returns-clause-new
returns-clause-new _ = new_above
