-- The symbols so far.
use Rattle.std.proofs.Common.{◌≡◌, take}
use Rattle.fol_core.proofs.symbols.Symbols.copy.Given as goal

abbrev pub invariant-loop-number : goal.invariant-loop-number
invariant-loop-number l = l.copy ≡ take l.number l.self
