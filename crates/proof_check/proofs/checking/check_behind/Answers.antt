use Rattle.std.proofs.Common.{Some, arith, ◌<◌, take, length, subst, sym}
use Rattle.answered_lines.specs.View.{answered_line, answered_lines_of}
use Rattle.derivation.specs.declared.line.Line.{Line}
use Rattle.proof_check.specs.Found.{FoundWith}
use Rattle.stated_lines.specs.Held.{asked_inputs, rows_with}
use Rattle.proof_check.proofs.CheckSteps.{going_rising, going_next}
use Rattle.proof_check.proofs.checking.check_behind.Goals as goal

pub judge_line-requires : goal.judge_line-requires
judge_line-requires c = going_rising (asked_inputs c.args.inputs.now) (rows_with c.args.rows.now c.args.answers.now) c.args.lines.now c.loop-i.i c.loop-i.invariant

pub loop-i-preserved : goal.loop-i-preserved
loop-i-preserved c =
    let ss = asked_inputs c.args.inputs.now in
    let rows = rows_with c.args.rows.now c.args.answers.now in
    let ls = c.args.lines.now in
    let i = c.loop-i.i in
    let l = c.index-lines-i-in-loop-i.result in
    let x = c.index-lines-i.result in
    let above : 0 < i = omega arith in
    let below : i < length ls = omega arith in
    going_next ss rows ls i l x c.loop-i.invariant above below c.index-lines-i-in-loop-i.is c.index-lines-i.is
    (subst (λ o. FoundWith ss rows (answered_lines_of (take i ls)) (Some x.number) (answered_line l) o) c.in-None.is
    (subst (λ (y : Line). FoundWith ss rows (answered_lines_of (take i ls)) (Some y.number) (answered_line l) c.in_ok-judge_line.field-0) (sym c.index-lines-i.is) c.in_ok-judge_line.ensures))
