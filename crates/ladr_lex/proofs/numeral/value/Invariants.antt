-- the digits to come lead from the sum so far, which fits, to the whole number
use Rattle.std.proofs.Common.{◌≡◌, ◌<◌, ◌^◌, drop}
use Rattle.ladr_lex.specs.Numeral.{value, value_from}
use Rattle.ladr_lex.proofs.numeral.value.Given as goal

abbrev pub invariant-loop-byte : goal.invariant-loop-byte
invariant-loop-byte l = (value_from l.sum (drop l.byte-index l.text) ≡ value l.text) × (l.sum < 2 ^ 64)
