use Rattle.std.proofs.Common.{[], None}
use Rattle.answered_lines.proofs.PlainLines.{lines_none}
use Rattle.answered_lines.proofs.RefusedLines.{whole_fault_stays}
use Rattle.answered_lines.proofs.laws.plain_lines_stay.Goals as goal

pub returns-clause-lines : goal.returns-clause-lines
returns-clause-lines _ = λ ss rows ls none are. lines_none ss rows [] None ls tt none are

pub returns-clause-refutations : goal.returns-clause-refutations
returns-clause-refutations _ = λ ss rows ls none is. (lines_none ss rows [] None ls tt none is.0, is.1)

pub returns-clause-faults : goal.returns-clause-faults
returns-clause-faults _ = whole_fault_stays
