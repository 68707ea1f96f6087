-- The copies so far are the first names.
use Rattle.std.proofs.Common.{◌≡◌, take}
use Rattle.fol_core.proofs.name.Names.copy.Given as goal

abbrev pub invariant-loop-name : goal.invariant-loop-name
invariant-loop-name l = l.copies ≡ take l.name-index l.name-items
