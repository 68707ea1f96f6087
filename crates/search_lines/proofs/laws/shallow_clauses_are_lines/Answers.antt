use Rattle.search_lines.proofs.Levels.{not_too_deep}
use Rattle.search_lines.proofs.laws.shallow_clauses_are_lines.Goals as goal

pub returns : goal.returns
returns _ = not_too_deep
