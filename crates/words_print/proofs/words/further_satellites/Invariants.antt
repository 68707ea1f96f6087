-- The text so far, and that of the satellites to come, is that of all.
use Rattle.std.proofs.Common.{◌≡◌, ◌++◌, drop}
use Rattle.words_print.specs.WordTokens.{further_satellites, joint_text}
use Rattle.words_print.proofs.words.further_satellites.Given as goal

abbrev pub invariant-loop-satellite : goal.invariant-loop-satellite
invariant-loop-satellite l =
    l.out.items ++ joint_text (further_satellites (drop l.satellite-index l.satellites)) ≡ l.fn.out.items ++ joint_text (further_satellites l.satellites)
