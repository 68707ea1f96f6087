-- One more line, and all of them.
use Rattle.std.proofs.Common.{◌≡◌, ◌+◌, ◌∙◌, sym, ap, subst, arith, length, List, Bool}
use Rattle.clause_store.proofs.Kept.{more_unnoted}
use Rattle.clause_store.specs.Lines.{AreUnnoted}
use Rattle.clause_store.specs.Marks.{parents_at, MarkAncestors}
use Rattle.prover_proofs.proofs.Placed.{all_counted}
use Rattle.prover_proofs.proofs.Taking.{line_taken, line_left, lines_found}
use Rattle.prover_proofs.proofs.lines.SearchLines.lines_to.Goals as goal
use Rattle.prover_proofs.proofs.lines.SearchLines.lines_to.Goals.{then-mark+in_ok-line+in_ok-push, else-mark}
use Rattle.prover_proofs.specs.SearchLines.{lines_in}

pub loop-place-preserved : goal.loop-place-preserved
loop-place-preserved c =
    let s = c.args.self.now in
    let all = lines_in s in
    let marks = c.deref-mark-items.result.now in
    let counted = all_counted s.inputs.now s.clauses.now s.made.now in
    let many : length marks ≡ length all = ap (λ (bs : List Bool). length bs) c.deref-mark-items.ensures.value ∙ c.in_ok-marks.ensures.each in
    elim c.if-mark.branch [
      | then-mark+in_ok-line+in_ok-push w ↦
          let more = ap (λ v. v.items) w.lines-is ∙ w.in_ok-push.ensures.items in
          record {
            lines = line_taken all counted marks c.loop-place.place c.loop-place.lines.items c.if-mark.lines.items many c.loop-place-test.true c.loop-place.invariant.lines
                w.in_ok-line.field-0 (c.loop-place.place + 1) w.if-mark.true (omega arith) w.in_ok-line.ensures.line more;
            notes = more_unnoted c.loop-place.lines.items c.if-mark.lines.items w.in_ok-line.field-0 c.loop-place.invariant.notes w.in_ok-line.ensures.notes more;
          }
      | else-mark w ↦
          let same = ap (λ v. v.items) w.lines-is in
          record {
            lines = line_left all counted marks c.loop-place.place c.loop-place.lines.items c.if-mark.lines.items many c.loop-place-test.true c.loop-place.invariant.lines
                w.if-mark.false same;
            notes = subst AreUnnoted (sym same) c.loop-place.invariant.notes;
          }
    ]

pub returns-clause-lines : goal.returns-clause-lines
returns-clause-lines c =
    let s = c.args.self.now in
    let all = lines_in s in
    let e = c.deref-mark-items.ensures.value in
    let many : length c.deref-mark-items.result.now ≡ length all = ap (λ (bs : List Bool). length bs) e ∙ c.in_ok-marks.ensures.each in
    lines_found all c.args.n c.deref-mark-items.result.now c.loop-place.place c.loop-place.lines.items (all_counted s.inputs.now s.clauses.now s.made.now)
    (subst (λ (bs : List Bool). MarkAncestors (length all) (parents_at all) c.args.n bs) (sym e) c.in_ok-marks.ensures) (omega (arith, many)) c.loop-place.invariant.lines
