-- Other numbers stand where they stood.
use Rattle.discrim_tree.specs.Sieves.{OthersStay}
use Rattle.clause_index.proofs.finder.+take_terms.Given as goal

abbrev pub invariant-loop-term : goal.invariant-loop-term
invariant-loop-term l = OthersStay l.number l.fn.sieve l.sieve
