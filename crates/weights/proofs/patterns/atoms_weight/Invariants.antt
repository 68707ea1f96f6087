-- The first literals are weighed.
use Rattle.std.proofs.Common.{◌≡◌, take, map, vec_capacity}
use Rattle.fol_core.specs.ClauseView.{literal_of}
use Rattle.weights.specs.Rows.{weight_row}
use Rattle.weights.specs.Weighing.{atoms_weight}
use Rattle.weights.proofs.patterns.atoms_weight.Given as goal

abbrev pub invariant-loop-literal : goal.invariant-loop-literal
invariant-loop-literal l = record {
  sum : l.sum ≡ atoms_weight (map weight_row l.rules) (map literal_of (take l.literal-index l.literal-items));
  room : vec_capacity l.weights ≡ vec_capacity l.fn.weights;
  bindings : l.found.room ≡ l.fn.found.room;
}
