-- The clauses of the rows before.
use Rattle.std.proofs.Common.{◌≡◌, take, map}
use Rattle.prover_setup.proofs.guiding.clauses_alone.Given as goal

abbrev pub invariant-loop-row : goal.invariant-loop-row
invariant-loop-row l = l.clauses.items ≡ map (λ r. r.1) (take l.row-index l.rows)
