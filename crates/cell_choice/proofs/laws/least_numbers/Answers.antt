use Rattle.cell_choice.proofs.Exchanging.{least_numbers_suffice}
use Rattle.cell_choice.proofs.laws.least_numbers.Goals as goal

pub returns : goal.returns
returns c = least_numbers_suffice
