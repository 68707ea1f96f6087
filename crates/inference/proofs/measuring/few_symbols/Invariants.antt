-- What is left with the first literals makes up the number.
use Rattle.std.proofs.Common.{◌≡◌, ◌+◌, take}
use Rattle.inference.specs.Left.{all_left, symbols_lent}
use Rattle.inference.proofs.measuring.few_symbols.Given as goal

abbrev pub invariant-loop-one : goal.invariant-loop-one
invariant-loop-one l = l.room + symbols_lent (all_left (take l.one-index l.left)) ≡ 999
