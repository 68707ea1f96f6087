-- The rows of the first symbols.
use Rattle.std.proofs.Common.{◌≡◌, take}
use Rattle.term_order.specs.Listed.{symbol_rows}
use Rattle.term_order.proofs.precedence.Precedence.new.Given as goal

abbrev pub invariant-loop-number : goal.invariant-loop-number
invariant-loop-number l = l.rows.items ≡ symbol_rows l.listed l.weights (take l.number l.symbols)
