-- those so far are shown
use Rattle.std.proofs.Common.{◌≡◌, map, take}
use Rattle.ladr_problem.specs.Places.{shown_byte}
use Rattle.ladr_problem.proofs.read.shown.Given as goal

abbrev pub invariant-loop-byte : goal.invariant-loop-byte
invariant-loop-byte l = l.bytes.items ≡ map shown_byte (take l.byte-index l.byte-items)
