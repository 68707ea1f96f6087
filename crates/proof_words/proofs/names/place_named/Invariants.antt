-- the letters to come lead from the number so far, which fits, to the whole one
use Rattle.std.proofs.Common.{◌≡◌, ◌<◌, ◌^◌, drop}
use Rattle.proof_words.specs.Names.{letters_from}
use Rattle.proof_words.proofs.names.place_named.Given as goal

abbrev pub invariant-loop-byte : goal.invariant-loop-byte
invariant-loop-byte l = (letters_from l.sum (drop l.byte-index l.text) ≡ letters_from 0 l.text) × (l.sum < 2 ^ 64)
