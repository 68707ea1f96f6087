-- the words so far, and what is left to read of the rewritings
use Rattle.std.proofs.Common.{◌≡◌, ◌≤◌, length, map}
use Rattle.derivation.specs.View.{later_of}
use Rattle.proof_words.specs.Spelling.{rewritings, words_outcome}
use Rattle.proof_words.specs.Written.{WrittenFirst}
use Rattle.proof_words.proofs.steps.rewritings.Given as goal

abbrev pub invariant-loop-rewriting : goal.invariant-loop-rewriting
invariant-loop-rewriting l =
    ((w : WrittenFirst) → words_outcome (rewritings w (map later_of l.fn.steps.items)) l.fn.walk ≡ words_outcome (rewritings w (map later_of l.steps.items)) l.walk) × (length l.walk ≤ length l.fn.walk)

abbrev pub decreases-loop-rewriting : goal.decreases-loop-rewriting
decreases-loop-rewriting l = length l.walk
