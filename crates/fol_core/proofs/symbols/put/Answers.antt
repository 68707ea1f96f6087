-- The table with the symbol at its end.
use Rattle.std.proofs.Common.{◌≡◌, ◌+◌, [], ◌∷◌, ◌++◌, length, set, slice_index, subst, sym, ap, ap₂, ◌∙◌, arith}
use Rattle.fol_core.specs.SymbolSlots.{slot_of, IsTable}
use Rattle.fol_core.proofs.Slots.{table_pushed, slot_within}
use Rattle.fol_core.proofs.symbols.put.Goals as goal

pub returns-clause-table : goal.returns-clause-table
returns-clause-table c =
    let heads = c.args.heads.now.items in
    let links = c.args.links.now.items in
    let rows = c.args.rows.now.items in
    let s = c.args.row in
    let its = slot_of (length heads) s.name s.arity in
    let number : c.len-number.result ≡ length rows = omega (arith, c.len-number.ensures) in
    let hs : c.link.new.heads.items ≡ set heads its (length rows + 1) = c.link.ensures.heads ∙ ap (λ n. set heads its (n + 1)) number in
    let ls : c.link.new.links.items ≡ set (links ++ 0 ∷ []) (length rows) (slice_index heads its) = c.link.ensures.links ∙ ap₂ (λ l n. set l n (slice_index heads its)) c.push_reserved.ensures.items number in
    let is = table_pushed heads links rows s c.requires.table c.requires.absent c.requires.slots c.requires.few (slot_within (length heads) s.name s.arity (omega (arith, c.requires.slots))) in
    subst (λ t. IsTable c.link.new.heads.items c.link.new.links.items t) (sym c.push_reserved-2.ensures.items)
    (subst (λ l. IsTable c.link.new.heads.items l (rows ++ s ∷ [])) (sym ls)
    (subst (λ h. IsTable h (set (links ++ 0 ∷ []) (length rows) (slice_index heads its)) (rows ++ s ∷ [])) (sym hs) is))
