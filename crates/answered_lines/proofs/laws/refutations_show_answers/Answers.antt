use Rattle.answered_lines.proofs.AskedRows.{answers_shown}
use Rattle.answered_lines.proofs.laws.refutations_show_answers.Goals as goal

pub returns : goal.returns
returns c = answers_shown c.input_clauses_hold.ensures.rows c.answers_are_sound.ensures
