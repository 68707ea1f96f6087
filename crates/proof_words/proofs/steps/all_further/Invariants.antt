-- the words so far, and what is left to read of them
use Rattle.std.proofs.Common.{◌≡◌, length, map}
use Rattle.derivation.specs.View.{later_of}
use Rattle.proof_words.specs.Spelling.{words, words_outcome}
use Rattle.proof_words.specs.Written.{WrittenFirst}
use Rattle.proof_words.proofs.steps.all_further.Given as goal

abbrev pub invariant-loop-halt : goal.invariant-loop-halt
invariant-loop-halt l = (w : WrittenFirst) → words_outcome (words w (map later_of l.fn.steps.items)) l.fn.walk ≡ words_outcome (words w (map later_of l.steps.items)) l.walk

abbrev pub decreases-loop-halt : goal.decreases-loop-halt
decreases-loop-halt l = length l.walk
