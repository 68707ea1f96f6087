-- The table without its last symbol.
use Rattle.std.proofs.Common.{◌≡◌, ◌-◌, ◌<◌, suc, Some, length, take, set, slice_get, slice_index, subst, refl, sym, ap, ◌∙◌, arith}
use Rattle.std.proofs.lemmas.List.{get_or_default}
use Rattle.std.proofs.lemmas.Option.{slice_get_read}
use Rattle.fol_core.specs.SymbolSlots.{slot_of, IsTable}
use Rattle.fol_core.proofs.Slots.{table_popped, slot_within}
use Rattle.fol_core.proofs.symbols.drop_last.Goals as goal

pub returns-clause-table : goal.returns-clause-table
returns-clause-table c =
    let heads = c.args.heads.now.items in
    let links = c.args.links.now.items in
    let rows = c.args.rows.now.items in
    let last = c.len-last.result - 1 in
    let s = c.index.result.now in
    let its = slot_of (length heads) s.name s.arity in
    let table = c.requires.table in
    let whole : length rows ≡ suc last = omega (arith, c.len-last.ensures, c.requires.some) in
    let below : last < length rows = omega (arith, whole) in
    let stands : slice_get rows last ≡ Some s = slice_get_read rows (length rows) last s refl below c.index.ensures in
    let many : c.len.result ≡ length heads = omega (arith, c.len.ensures) in
    let slot : c.slot-slot.result ≡ its = c.slot-slot.ensures.slot ∙ ap (λ n. slot_of n s.name s.arity) many in
    let before : c.index-2.result.now ≡ slice_index links last = c.index-2.ensures ∙ get_or_default links last c.index-2.result.now 0 (omega (arith, below, table.linked)) in
    let is = table_popped heads links rows last s table whole stands (slot_within (length heads) s.name s.arity (omega (arith, below, table.room))) in
    subst (λ t. IsTable (set heads c.slot-slot.result c.index-2.result.now) c.truncate.new.self.items t) (sym c.truncate-2.ensures.items)
    (subst (λ l. IsTable (set heads c.slot-slot.result c.index-2.result.now) l (take last rows)) (sym c.truncate.ensures.items)
    (subst (λ v. IsTable (set heads c.slot-slot.result v) (take last links) (take last rows)) (sym before)
    (subst (λ j. IsTable (set heads j (slice_index links last)) (take last links) (take last rows)) (sym slot) is)))
