-- the answer for the rest is that for all
use Rattle.std.proofs.Common.{◌≡◌}
use Rattle.proof_lines.specs.Strays.{is_kept, strays_behind}
use Rattle.proof_lines.proofs.strays.brings_stray.Given as goal

abbrev pub invariant-loop-n : goal.invariant-loop-n
invariant-loop-n l = strays_behind (is_kept l.names) l.n l.symbols ≡ strays_behind (is_kept l.names) l.fn.before l.symbols
