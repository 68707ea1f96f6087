-- the names so far are the order, and apart
use Rattle.std.proofs.Common.{◌≡◌, true, take}
use Rattle.fol_core.specs.NamesOnce.{are_apart}
use Rattle.ladr_settings.proofs.symbols.order_of.Given as goal

abbrev pub invariant-loop-name : goal.invariant-loop-name
invariant-loop-name l = (l.order ≡ take l.name-index l.names) × (are_apart l.order ≡ true)
