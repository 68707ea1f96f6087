use Rattle.answered_lines.specs.View.{answered_lines_of, answered_rows_of, asked_of}
use Rattle.proof_check.proofs.checking.check.Goals as goal

pub returns-clause-exact : goal.returns-clause-exact
returns-clause-exact c = λ line row e.
    c.fault_is_one_with.ensures.none (asked_of c.args.problem.now) (answered_rows_of c.args.clauses.now) (answered_lines_of c.args.lines.now) line row (c.check_lines.ensures.refused line row e)
