-- the run that is kept ends at the end so far where none is ahead, else where the one ahead ends
use Rattle.std.proofs.Common.{◌≡◌, ◌+◌, ◌-◌, ◌≤◌, cond, eqb, drop, length}
use Rattle.ladr_lex.specs.Lexed.{kept}
use Rattle.ladr_lex.proofs.scan.kept_end.Given as goal

abbrev pub invariant-loop-at : goal.invariant-loop-at
invariant-loop-at l =
    (l.at ≤ length l.bytes) × (l.end ≤ l.at) × (cond (eqb (kept (drop l.at l.bytes)) 0) l.end (l.at + kept (drop l.at l.bytes)) ≡ l.fn.from + kept (drop l.fn.from l.bytes))

abbrev pub decreases-loop-at : goal.decreases-loop-at
decreases-loop-at l = length l.bytes - l.at
