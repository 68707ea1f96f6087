-- the run ends where what is ahead of it ends
use Rattle.std.proofs.Common.{◌≡◌, ◌+◌, ◌-◌, ◌≤◌, drop, length}
use Rattle.std.specs.List.{prefix_len}
use Rattle.ladr_lex.specs.Lexed.{in_class}
use Rattle.ladr_lex.proofs.scan.run_end.Given as goal

abbrev pub invariant-loop-end : goal.invariant-loop-end
invariant-loop-end l =
    (l.end ≤ length l.bytes) × (l.end + prefix_len (in_class l.class) (drop l.end l.bytes) ≡ l.fn.from + prefix_len (in_class l.class) (drop l.fn.from l.bytes))

abbrev pub decreases-loop-end : goal.decreases-loop-end
decreases-loop-end l = length l.bytes - l.end
