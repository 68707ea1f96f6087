use Rattle.search_lines.proofs.Formulas.{all_rows_of}
use Rattle.search_lines.proofs.laws.rows_are_of_formulas.Goals as goal

pub returns : goal.returns
returns _ = all_rows_of
