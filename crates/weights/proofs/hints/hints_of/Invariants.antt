-- The first hints are made.
use Rattle.std.proofs.Common.{◌≡◌, map, take}
use Rattle.weights.specs.HintRows.{hint_row, row_of_hint}
use Rattle.weights.proofs.hints.hints_of.Given as goal

abbrev pub invariant-loop-hint : goal.invariant-loop-hint
invariant-loop-hint l = map hint_row l.all.items ≡ map row_of_hint (take l.hint-index l.hints)
