-- The first satellites are short.
use Rattle.std.proofs.Common.{take}
use Rattle.std.specs.List.{All}
use Rattle.words_print.specs.Sayable.{IsShortSatellite}
use Rattle.printed_proofs.proofs.words.satellites_are_short.Given as goal

abbrev pub invariant-loop-satellite : goal.invariant-loop-satellite
invariant-loop-satellite l = All IsShortSatellite (take l.satellite-index l.satellites)
