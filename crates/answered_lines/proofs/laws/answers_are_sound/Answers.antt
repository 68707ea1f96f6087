use Rattle.answered_lines.proofs.GoodLines.{answers_sound}
use Rattle.answered_lines.proofs.laws.answers_are_sound.Goals as goal

pub returns : goal.returns
returns _ = answers_sound
