-- the line ends where what is ahead of it ends
use Rattle.std.proofs.Common.{◌≡◌, ◌+◌, ◌-◌, ◌≤◌, drop, length}
use Rattle.std.specs.List.{prefix_len}
use Rattle.ladr_lex.specs.Comments.{is_in_line}
use Rattle.proof_text.proofs.frame.first_line_len.Given as goal

abbrev pub invariant-loop-len : goal.invariant-loop-len
invariant-loop-len l = (l.len ≤ length l.bytes) × (l.len + prefix_len is_in_line (drop l.len l.bytes) ≡ prefix_len is_in_line l.bytes)

abbrev pub decreases-loop-len : goal.decreases-loop-len
decreases-loop-len l = length l.bytes - l.len
