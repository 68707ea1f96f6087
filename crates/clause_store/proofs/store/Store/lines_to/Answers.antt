-- One more line, and all of them.
use Rattle.std.proofs.Common.{◌≡◌, ◌∙◌, sym, ap, subst, length}
use Rattle.clause_store.proofs.Kept.{line_within, line_taken, line_left, lines_found, more_unnoted}
use Rattle.clause_store.specs.Lines.{AreUnnoted}
use Rattle.clause_store.proofs.store.Store.lines_to.Goals as goal
use Rattle.clause_store.proofs.store.Store.lines_to.Goals.{then-index+in_ok-plain+in_ok-push, else-index}

pub plain-requires : goal.plain-requires
plain-requires c = line_within c.args.bank.now c.args.self.now.lines.items c.deref-line-items.result.now c.loop-place.place c.line-item.result c.requires c.deref-line-items.ensures.value c.loop-place-test.true c.line-item.is

pub loop-place-preserved : goal.loop-place-preserved
loop-place-preserved c =
    let bank = c.args.bank.now in
    let marks = c.in_ok-marks.marks.items in
    let ks = c.deref-line-items.result.now in
    let i = c.loop-place.place in
    let many : length marks ≡ length c.args.self.now.lines.items = c.in_ok-marks.ensures.each ∙ ap length c.deref.ensures.value in
    elim c.if-index.branch [
      | then-index+in_ok-plain+in_ok-push w ↦
          let more = ap (λ v. v.items) w.lines-is ∙ w.in_ok-push.ensures.items in
          record {
            lines = line_taken bank marks c.args.self.now.lines.items ks i c.line-item.result c.index.result.now c.loop-place.lines.items c.if-index.lines.items w.in_ok-plain.field-0
                c.loop-place-test.true c.line-item.is c.deref-line-items.ensures.value many c.index.ensures w.if-index.true c.loop-place.invariant.lines w.in_ok-plain.ensures.line more;
            notes = more_unnoted c.loop-place.lines.items c.if-index.lines.items w.in_ok-plain.field-0 c.loop-place.invariant.notes w.in_ok-plain.ensures.notes more;
          }
      | else-index w ↦
          let same = ap (λ v. v.items) w.lines-is in
          record {
            lines = line_left bank marks c.args.self.now.lines.items ks i c.line-item.result c.index.result.now c.loop-place.lines.items c.if-index.lines.items
                c.loop-place-test.true c.line-item.is c.deref-line-items.ensures.value many c.index.ensures w.if-index.false c.loop-place.invariant.lines same;
            notes = subst AreUnnoted (sym same) c.loop-place.invariant.notes;
          }
    ]

pub returns-clause-lines : goal.returns-clause-lines
returns-clause-lines c =
    lines_found c.args.bank.now c.args.self.now.lines.items c.deref-line-items.result.now c.deref.result.now c.args.n c.in_ok-marks.marks.items c.loop-place.place c.loop-place.lines.items
    c.deref.ensures.value c.in_ok-marks.ensures c.deref-line-items.ensures.value c.loop-place-test.false c.loop-place.invariant.lines
