use Rattle.answered_lines.proofs.AskedRows.{rows_follow}
use Rattle.answered_lines.proofs.UnansweredClauses.{clauses_follow}
use Rattle.answered_lines.proofs.laws.input_clauses_hold.Goals as goal

pub returns-clause-unanswered : goal.returns-clause-unanswered
returns-clause-unanswered _ = clauses_follow

pub returns-clause-rows : goal.returns-clause-rows
returns-clause-rows _ = rows_follow clauses_follow
