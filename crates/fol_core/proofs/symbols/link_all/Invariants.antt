-- The symbols so far are in their slots.
use Rattle.std.proofs.Common.{◌≡◌, length, take}
use Rattle.fol_core.specs.SymbolSlots.{AreHeads, AreLinks}
use Rattle.fol_core.proofs.symbols.link_all.Given as goal

abbrev pub invariant-loop-number : goal.invariant-loop-number
invariant-loop-number l = record {
  count : length l.heads.items ≡ length l.fn.heads.items;
  linked : length l.links.items ≡ length l.fn.links.items;
  heads : AreHeads l.heads.items (take l.number l.rows);
  links : AreLinks (length l.heads.items) l.links.items (take l.number l.rows);
}
