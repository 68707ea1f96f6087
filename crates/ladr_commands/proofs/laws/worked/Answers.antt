use Rattle.std.proofs.Common.{refl}
use Rattle.ladr_commands.specs.Commands.{commands}
use Rattle.ladr_commands.proofs.Forms.{first_bad}
use Rattle.ladr_commands.proofs.laws.worked.Goals as goal

pub returns-clause-zeros : goal.returns-clause-zeros
returns-clause-zeros _ = (first_bad commands _ _ refl).0

pub returns-clause-empty_list : goal.returns-clause-empty_list
returns-clause-empty_list _ = (first_bad commands _ _ refl).0

pub returns-clause-unknown : goal.returns-clause-unknown
returns-clause-unknown _ = (first_bad commands _ _ refl).0

pub returns-clause-cut_off : goal.returns-clause-cut_off
returns-clause-cut_off _ = (first_bad commands _ _ refl).0

pub returns-clause-other_program : goal.returns-clause-other_program
returns-clause-other_program _ = (first_bad commands _ _ refl).0
