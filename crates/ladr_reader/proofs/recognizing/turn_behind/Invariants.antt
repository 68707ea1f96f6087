-- What the precedence now, behind what waits now, leads to is what the first one led to.
use Rattle.std.proofs.Common.{◌≡◌, length}
use Rattle.ladr_reader.specs.Control.{turn_behind}
use Rattle.ladr_reader.proofs.recognizing.turn_behind.Given as goal

abbrev pub invariant-loop-own : goal.invariant-loop-own
invariant-loop-own l = turn_behind l.turn l.precedence l.waits ≡ turn_behind l.fn.turn l.fn.precedence l.fn.waits

abbrev pub decreases-loop-own : goal.decreases-loop-own
decreases-loop-own l = length l.waits
