use Rattle.std.proofs.Common.{[], None}
use Rattle.answered_lines.proofs.PlainLines.{lines_plain}
use Rattle.answered_lines.proofs.laws.lines_are_plain.Goals as goal

pub returns-clause-lines : goal.returns-clause-lines
returns-clause-lines _ = λ ss rows ls are. lines_plain ss rows [] None ls are

pub returns-clause-refutations : goal.returns-clause-refutations
returns-clause-refutations _ = λ ss rows ls is. (lines_plain ss rows [] None ls is.0, is.1)
