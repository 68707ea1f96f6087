use Rattle.std.proofs.Common.{None, [], arith, ◌<◌, length, subst}
use Rattle.answered_lines.specs.View.{answered_line}
use Rattle.proof_check.specs.Found.{FoundWith}
use Rattle.stated_lines.specs.Held.{asked_inputs, rows_with}
use Rattle.proof_check.proofs.CheckSteps.{going_start}
use Rattle.proof_check.proofs.checking.check_lines.Goals as goal

pub check_behind-requires-clause-first : goal.check_behind-requires-clause-first
check_behind-requires-clause-first c =
    let some : 0 < length c.args.lines.now = omega arith in
    going_start (asked_inputs c.as_slice-inputs.result.now) (rows_with c.as_slice-rows.result.now c.as_slice-answers.result.now) c.args.lines.now c.index-lines-0.result some c.index-lines-0.is
    (subst (λ o. FoundWith (asked_inputs c.as_slice-inputs.result.now) (rows_with c.as_slice-rows.result.now c.as_slice-answers.result.now) [] None (answered_line c.index-lines-0.result) o) c.in-None.is c.in_ok-judge_line.ensures)
