-- the rows of the symbols so far
use Rattle.std.proofs.Common.{◌≡◌, map, take}
use Rattle.ladr_interpretations.specs.Good.{listing_for}
use Rattle.ladr_interpretations.proofs.named.bind.Given as goal

abbrev pub invariant-loop-number : goal.invariant-loop-number
invariant-loop-number l = l.rows.items ≡ map (listing_for l.named.entries) (take l.number l.symbols)
