-- The first terms are counted.
use Rattle.std.proofs.Common.{◌≡◌}
use Rattle.term_matches.proofs.Counting.{counted}
use Rattle.term_matches.proofs.variables.+occurrences.Given as goal

abbrev pub invariant-loop-term : goal.invariant-loop-term
invariant-loop-term l = l.count ≡ counted l.term-items l.term-index
