-- None of the first ones is greater.
use Rattle.std.proofs.Common.{ℕ, ◌<◌, ◌≤◌}
use Rattle.term_unifiers.specs.Measures.{measure_at}
use Rattle.term_unifiers.proofs.measuring.most_symbols.Given as goal

abbrev pub invariant-loop-measure : goal.invariant-loop-measure
invariant-loop-measure l = record {
  one : 1 ≤ l.most;
  all : (n : ℕ) → n < l.measure-index → (measure_at l.measures n).size ≤ l.most;
}
