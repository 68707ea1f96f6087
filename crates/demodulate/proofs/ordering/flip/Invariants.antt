-- The pass comes to the same from here on.
use Rattle.std.proofs.Common.{◌≡◌, length, map}
use Rattle.derivation.specs.View.{later_of}
use Rattle.held_clauses.specs.Order.{greater_of}
use Rattle.demodulate.specs.Passes.{flips_behind}
use Rattle.demodulate.proofs.ordering.flip.Given as goal

abbrev pub invariant-loop-place : goal.invariant-loop-place
invariant-loop-place l = record {
  same : flips_behind (greater_of l.precedence) l.clause (map later_of l.words.items) l.place ≡ flips_behind (greater_of l.precedence) l.fn.tidied.clause (map later_of l.fn.tidied.words.items) 0;
  as_many : length l.clause ≡ length l.fn.tidied.clause;
}
