-- The rules left decide.
use Rattle.std.proofs.Common.{◌≡◌, drop, map}
use Rattle.fol_core.specs.Tree.{app, trees_of}
use Rattle.weights.specs.Rows.{weight_row}
use Rattle.weights.specs.WeighingLaws.{first_weight}
use Rattle.weights.proofs.patterns.weight_by_rule.Given as goal

abbrev pub invariant-loop-rule : goal.invariant-loop-rule
invariant-loop-rule l = record {
  decides : first_weight (map weight_row l.rules) (map weight_row (drop l.rule-index l.rules)) (app l.head.0 (trees_of l.terms))
      ≡ first_weight (map weight_row l.rules) (map weight_row l.rules) (app l.head.0 (trees_of l.terms));
  room : l.found.room ≡ l.fn.found.room;
}
