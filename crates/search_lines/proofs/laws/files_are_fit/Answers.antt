use Rattle.search_lines.proofs.Files.{grown_fit}
use Rattle.search_lines.proofs.laws.files_are_fit.Goals as goal

pub returns : goal.returns
returns _ = grown_fit
