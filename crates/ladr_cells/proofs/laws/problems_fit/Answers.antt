use Rattle.ladr_cells.proofs.Files.{problem_fits}
use Rattle.ladr_cells.proofs.laws.problems_fit.Goals as goal

pub returns : goal.returns
returns _ = problem_fits
