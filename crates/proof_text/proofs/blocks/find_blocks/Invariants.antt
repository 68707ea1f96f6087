-- the blocks so far are those in front of the place
use Rattle.std.proofs.Common.{◌≤◌, ◌-◌, length}
use Rattle.proof_text.proofs.Gathered.{Passed}
use Rattle.proof_text.proofs.blocks.find_blocks.Given as goal

abbrev pub invariant-loop-at : goal.invariant-loop-at
invariant-loop-at l = Passed l.bytes l.fn.from l.at l.found.items × (l.at ≤ length l.bytes)

abbrev pub decreases-loop-at : goal.decreases-loop-at
decreases-loop-at l = length l.bytes - l.at
