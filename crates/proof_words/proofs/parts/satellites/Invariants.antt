-- the satellites so far, and what is left to read of them
use Rattle.std.proofs.Common.{◌≡◌, List, [], length}
use Rattle.derivation.specs.declared.words.Satellite.{Satellite}
use Rattle.proof_words.specs.Spelling.{Spelling, satellites, words_outcome}
use Rattle.proof_words.proofs.parts.satellites.Given as goal

abbrev pub invariant-loop-read : goal.invariant-loop-read
invariant-loop-read l = (onward : List Satellite → Spelling) → words_outcome (satellites [] onward) l.fn.walk ≡ words_outcome (satellites l.read.items onward) l.walk

abbrev pub decreases-loop-read : goal.decreases-loop-read
decreases-loop-read l = length l.walk
