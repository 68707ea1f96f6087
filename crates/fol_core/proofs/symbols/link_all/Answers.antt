-- One more symbol is in its slot, and in the end each is.
use Rattle.std.proofs.Common.{◌≡◌, ◌+◌, ◌<◌, Some, length, take, slice_get, slice_index, subst, refl, ap, ◌∙◌, arith}
use Rattle.std.proofs.Math.Seq.{take-length}
use Rattle.std.proofs.lemmas.List.{length-set}
use Rattle.std.proofs.lemmas.Option.{slice_get_read}
use Rattle.fol_core.specs.SymbolSlots.{slot_of, AreLinks}
use Rattle.fol_core.proofs.Slots.{linked_next, slot_within}
use Rattle.fol_core.proofs.symbols.link_all.Goals as goal

pub loop-number-preserved : goal.loop-number-preserved
loop-number-preserved c =
    let at = c.loop-number in
    let n = at.number in
    let rows = c.args.rows.now in
    let s = c.index-rows-number.result in
    let heads = at.heads.items in
    let links = at.links.items in
    let its = slot_of (length heads) s.name s.arity in
    let below : n < length rows = omega (arith, c.loop-number-test.true) in
    let stands : slice_get rows n ≡ Some s = slice_get_read rows (length rows) n s refl below c.index-rows-number.is in
    let some : 0 < length heads = omega (arith, below, at.invariant.count, c.requires.room) in
    let both = linked_next heads links c.link.new.heads.items c.link.new.links.items rows n s stands (omega (arith, at.invariant.linked, c.requires.linked)) (omega (arith, at.invariant.count, c.requires.room))
    (slot_within (length heads) s.name s.arity some) at.invariant.heads at.invariant.links c.link.ensures.heads c.link.ensures.links in
    record {
      count = ap length c.link.ensures.heads ∙ length-set heads its (n + 1) ∙ at.invariant.count;
      linked = ap length c.link.ensures.links ∙ length-set links n (slice_index heads its) ∙ at.invariant.linked;
      heads = both.0;
      links = both.1;
    }

pub returns-clause-links : goal.returns-clause-links
returns-clause-links c =
    let rows = c.args.rows.now in
    let all : c.loop-number.number ≡ length rows = omega (arith, c.loop-number-test.false, c.loop-number.auto.number-end) in
    subst (AreLinks (length c.loop-number.heads.items) c.loop-number.links.items) (ap (λ k. take k rows) all ∙ take-length rows) c.loop-number.invariant.links
