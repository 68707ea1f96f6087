use Rattle.answered_lines.proofs.RefusedLines.{refused_none_with, refused_once_with}
use Rattle.answered_lines.proofs.laws.refused_is_none_with.Goals as goal

pub returns-clause-none : goal.returns-clause-none
returns-clause-none _ = refused_none_with

pub returns-clause-one : goal.returns-clause-one
returns-clause-one _ = refused_once_with
