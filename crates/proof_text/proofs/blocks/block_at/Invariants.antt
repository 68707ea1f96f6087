-- the lines so far are those of the block
use Rattle.std.proofs.Common.{◌≤◌, ◌-◌, length}
use Rattle.proof_text.proofs.Gathered.{Gathered}
use Rattle.proof_text.proofs.blocks.block_at.Given as goal

abbrev pub invariant-loop-at : goal.invariant-loop-at
invariant-loop-at l = Gathered l.bytes l.fn.start l.at l.bare.items × (l.fn.start ≤ l.at) × (l.at ≤ length l.bytes)

abbrev pub decreases-loop-at : goal.decreases-loop-at
decreases-loop-at l = length l.bytes - l.at
