-- As many terms less are left to be taken.
use Rattle.std.proofs.Common.{◌≡◌, ◌-◌, ◌++◌, take, drop}
use Rattle.packed_terms.specs.Building.{from_top}
use Rattle.packed_terms.proofs.unpacking.taken.Given as goal

abbrev pub invariant-loop-i : goal.invariant-loop-i
invariant-loop-i l = record {
  taken : l.terms ++ take (l.count - l._i) (from_top l.stack.items) ≡ take l.count (from_top l.fn.stack.items);
  left : drop (l.count - l._i) (from_top l.stack.items) ≡ drop l.count (from_top l.fn.stack.items);
}
