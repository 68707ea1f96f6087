-- The clauses of the first numbers are found.
use Rattle.derivation.specs.View.{lines_of}
use Rattle.inference.specs.Lent.{lent_clauses}
use Rattle.proof_check.proofs.EarlierSteps.{Finding}
use Rattle.proof_check.proofs.earlier.clauses_at.Given as goal

abbrev pub invariant-loop-number : goal.invariant-loop-number
invariant-loop-number l = Finding (lines_of l.earlier) l.numbers l.number-index (lent_clauses l.found.items)
