-- the numbers so far, and what is left to read of the path
use Rattle.std.proofs.Common.{◌≡◌, ◌≤◌, ℕ, List, [], length}
use Rattle.proof_words.specs.Spelling.{Spelling, path, words_outcome}
use Rattle.proof_words.proofs.parts.path.Given as goal

abbrev pub invariant-loop-read : goal.invariant-loop-read
invariant-loop-read l = ((onward : List ℕ → Spelling) → words_outcome (path [] onward) l.fn.walk ≡ words_outcome (path l.read.items onward) l.walk) × (length l.walk ≤ length l.fn.walk)

abbrev pub decreases-loop-read : goal.decreases-loop-read
decreases-loop-read l = length l.walk
