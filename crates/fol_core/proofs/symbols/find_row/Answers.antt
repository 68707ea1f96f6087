-- The way through the slot of a name and arity.
use Rattle.std.proofs.Common.{◌≡◌, ◌-◌, ◌<◌, Some, suc, length, slice_get, slice_index, subst, refl, sym, ◌∙◌, arith}
use Rattle.std.proofs.lemmas.Option.{slice_get_read}
use Rattle.fol_core.proofs.Slots.{IsOnWay, way_start, way_on, way_found}
use Rattle.fol_core.proofs.symbols.find_row.Goals as goal

pub loop-at-init : goal.loop-at-init
loop-at-init c =
    let heads = c.args.heads.now in
    subst (λ j. IsOnWay (length heads) c.args.name.now c.args.arity c.args.rows.now (slice_index heads j)) (sym c.slot_of.ensures.slot)
    (way_start (length heads) c.args.name.now c.args.arity heads c.args.rows.now refl c.requires.slots (subst (λ j. j < length heads) c.slot_of.ensures.slot c.slot_of.ensures.within))

pub returns-then-is_called-clause-number : goal.returns-then-is_called-clause-number
returns-then-is_called-clause-number c =
    let n = c.loop-at.at - 1 in
    let s = c.index-rows-number.result in
    let stands : slice_get c.args.rows.now n ≡ Some s = slice_get_read c.args.rows.now (length c.args.rows.now) n s refl (omega (arith, c.loop-at-test.true, c.loop-at.invariant.within)) c.index-rows-number.is in
    sym (way_found (length c.args.heads.now) c.args.name.now c.args.arity c.args.rows.now n s c.requires.once stands (sym c.is_called.ensures ∙ c.if-is_called.true))

pub loop-at-smaller : goal.loop-at-smaller
loop-at-smaller c =
    let n = c.loop-at.at - 1 in
    let s = c.index-rows-number.result in
    let stands : slice_get c.args.rows.now n ≡ Some s = slice_get_read c.args.rows.now (length c.args.rows.now) n s refl (omega (arith, c.loop-at-test.true, c.loop-at.invariant.within)) c.index-rows-number.is in
    let next : c.loop-at.at ≡ suc n = omega (arith, c.loop-at-test.true) in
    let way = subst (IsOnWay (length c.args.heads.now) c.args.name.now c.args.arity c.args.rows.now) next c.loop-at.invariant in
    let on = way_on (length c.args.heads.now) c.args.name.now c.args.arity c.args.links.now c.args.rows.now n s c.requires.chains way stands (sym c.is_called.ensures ∙ c.if-is_called.false) in
    omega (arith, on.1, next)

pub loop-at-preserved : goal.loop-at-preserved
loop-at-preserved c =
    let n = c.loop-at.at - 1 in
    let s = c.index-rows-number.result in
    let stands : slice_get c.args.rows.now n ≡ Some s = slice_get_read c.args.rows.now (length c.args.rows.now) n s refl (omega (arith, c.loop-at-test.true, c.loop-at.invariant.within)) c.index-rows-number.is in
    let next : c.loop-at.at ≡ suc n = omega (arith, c.loop-at-test.true) in
    let way = subst (IsOnWay (length c.args.heads.now) c.args.name.now c.args.arity c.args.rows.now) next c.loop-at.invariant in
    (way_on (length c.args.heads.now) c.args.name.now c.args.arity c.args.links.now c.args.rows.now n s c.requires.chains way stands (sym c.is_called.ensures ∙ c.if-is_called.false)).0
