use Rattle.std.proofs.Common.{◌≡◌, ◌<◌, length, refl, sym, ◌∙◌, arith}
use Rattle.fol_core.specs.SymbolTable.{symbol, name_at, arity_at, kind_at}
use Rattle.ladr_interpretations.specs.Good.{values_for, listing_for}
use Rattle.ladr_interpretations.proofs.ValuesFor.{map_one_more}
use Rattle.ladr_interpretations.proofs.named.bind.Goals as goal

pub loop-number-preserved : goal.loop-number-preserved
loop-number-preserved c =
    let ts = c.args.named.now.entries in
    let table = c.args.symbols.now in
    let n = c.loop-number.number in
    let below : n < length table = omega arith in
    let made : c.in_ok-from_slice.field-0.items ≡ values_for ts (symbol (name_at table n) (arity_at table n) (kind_at table n)) =
    c.in_ok-from_slice.ensures.items ∙ rw (c.values_for-values.ensures, c.name.ensures, c.arity.ensures, c.kind-kind.ensures) refl in
    rw (c.in_ok-push.ensures.items, c.new.ensures, made, c.kind-kind.ensures, c.loop-number.invariant) (sym (map_one_more (listing_for ts) table n below))
