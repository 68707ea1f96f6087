-- The number stands under the first arguments.
use Rattle.clause_index.proofs.Filing.{ArgumentsFiled}
use Rattle.clause_index.proofs.finder.put_below.Given as goal

abbrev pub invariant-loop-term : goal.invariant-loop-term
invariant-loop-term l = ArgumentsFiled l.initial.sieve l.sieve l.number l.term-items l.term-index
