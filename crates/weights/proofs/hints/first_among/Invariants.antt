-- The places left decide.
use Rattle.std.proofs.Common.{◌≡◌, drop, map}
use Rattle.weights.specs.HintIndex.{first_among}
use Rattle.weights.specs.HintRows.{hint_row}
use Rattle.weights.proofs.hints.first_among.Given as goal

abbrev pub invariant-loop-place : goal.invariant-loop-place
invariant-loop-place l = record {
  decides : first_among (map hint_row l.hints) l.clause l.row ≡ first_among (map hint_row l.hints) l.clause (drop l.place-index l.row);
  room : l.places ≡ l.fn.places;
}
