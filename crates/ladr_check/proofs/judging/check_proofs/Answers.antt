use Rattle.std.proofs.Common.{◌<◌, ◌≤◌, List, length, take, Err, sym, ap, subst, arith}
use Rattle.std.proofs.lemmas.List.{take_all}
use Rattle.answered_lines.specs.Lines.{IsRefutationWith}
use Rattle.answered_lines.specs.Refused.{IsFaultWith}
use Rattle.answered_lines.specs.View.{answered_lines_of, answered_rows_of, asked_of}
use Rattle.derivation.specs.declared.line.Derivation.{Derivation}
use Rattle.derivation.specs.declared.line.Line.{Line}
use Rattle.ladr_check.proofs.Judgings.{refutations_more, all_looked_at, stops_at, same_fault, proofs_more, proofs_taken, proofs_count, proof_at}
use Rattle.ladr_check.specs.Offered.{proofs_in}
use Rattle.ladr_check.specs.Outcomes.{AreRefutations, ProofsEnd, end_of_all}
use Rattle.ladr_check.specs.declared.ends.CheckEnd.{CheckEnd}
use Rattle.ladr_check.proofs.judging.check_proofs.Goals as goal

pub returns-in-Err-NotAccepted : goal.returns-in-Err-NotAccepted
returns-in-Err-NotAccepted c =
    let ss = asked_of c.args.problem.now in
    let rows = answered_rows_of c.args.clauses.now in
    let ds = c.args.proofs.now in
    let i = c.loop-i.i in
    let d = c.index-proofs-i.result in
    let inside : i < length (proofs_in ds) = omega (arith, c.loop-i-test.true, proofs_count ds) in
    let before : AreRefutations ss rows (take i (proofs_in ds)) = subst (AreRefutations ss rows) (proofs_taken ds i) c.loop-i.invariant in
    let fault = subst (λ (ls : List Line). IsFaultWith ss rows (answered_lines_of ls) c.in-Err-NotAccepted.line c.in-Err-NotAccepted.row) c.deref.ensures.value
    (c.in-Err-NotAccepted.ensures.refused c.in-Err-NotAccepted.line c.in-Err-NotAccepted.row (ap Err c.in-Err-NotAccepted.field-0-is)) in
    let stops = stops_at ss rows (proofs_in ds) i (answered_lines_of d.lines.items) c.in-Err-NotAccepted.line c.in-Err-NotAccepted.row inside (proof_at ds i d c.loop-i-test.true c.index-proofs-i.is) before fault in
    same_fault ss rows (proofs_in ds) i c.in-Err-NotAccepted.line c.in-Err-NotAccepted.row _ _ c.in-Err-NotAccepted.line-is c.in-Err-NotAccepted.row-is stops

pub loop-i-preserved : goal.loop-i-preserved
loop-i-preserved c =
    let ss = asked_of c.args.problem.now in
    let rows = answered_rows_of c.args.clauses.now in
    let ds = c.args.proofs.now in
    let i = c.loop-i.i in
    let d = c.index-proofs-i.result in
    let accepted : IsRefutationWith ss rows (answered_lines_of d.lines.items) = subst (λ (ls : List Line). IsRefutationWith ss rows (answered_lines_of ls)) c.deref.ensures.value c.in-Ok.ensures.accepted in
    subst (AreRefutations ss rows) (sym (proofs_more ds i d c.loop-i-test.true c.index-proofs-i.is)) (refutations_more ss rows (proofs_in (take i ds)) (answered_lines_of d.lines.items) c.loop-i.invariant accepted)

pub returns : goal.returns
returns c =
    let ss = asked_of c.args.problem.now in
    let rows = answered_rows_of c.args.clauses.now in
    let ds = c.args.proofs.now in
    let whole : length ds ≤ c.loop-i.i = omega (arith, c.loop-i-test.false) in
    let all : AreRefutations ss rows (proofs_in ds) = subst (λ (es : List Derivation). AreRefutations ss rows (proofs_in es)) (take_all c.loop-i.i ds whole) c.loop-i.invariant in
    subst (λ (e : CheckEnd). ProofsEnd ss rows (proofs_in ds) e (length ds)) (sym c.end_of_all.ensures)
    (subst (λ n. ProofsEnd ss rows (proofs_in ds) (end_of_all n) n) (proofs_count ds) (all_looked_at ss rows (proofs_in ds) all))
