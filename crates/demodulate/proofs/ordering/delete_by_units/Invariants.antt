-- The pass comes to the same from here on.
use Rattle.std.proofs.Common.{◌≡◌, ◌≤◌, ◌-◌, length, map}
use Rattle.clause_index.specs.Sets.{all_in}
use Rattle.derivation.specs.View.{later_of}
use Rattle.demodulate.specs.Passes.{left_out_behind}
use Rattle.prover_steps.specs.Shortening.{is_denied}
use Rattle.demodulate.proofs.ordering.delete_by_units.Given as goal

abbrev pub invariant-loop-place : goal.invariant-loop-place
invariant-loop-place l = record {
  same : left_out_behind (is_denied (all_in l.held)) l.clause (map later_of l.words.items) l.place ≡ left_out_behind (is_denied (all_in l.held)) l.fn.tidied.clause (map later_of l.fn.tidied.words.items) 0;
  within : l.place ≤ length l.clause;
  on : l.fn.tries ≤ l.tries;
}

abbrev pub decreases-loop-place : goal.decreases-loop-place
decreases-loop-place l = length l.clause - l.place
