-- One literal more.
use Rattle.std.proofs.Common.{◌∙◌, ap, map, min}
use Rattle.weights.specs.Rows.{weight_row}
use Rattle.weights.proofs.Weighed.{next_atom}
use Rattle.weights.proofs.patterns.atoms_weight.Goals as goal

pub loop-literal-preserved : goal.loop-literal-preserved
loop-literal-preserved c = record {
  sum =
      next_atom (map weight_row c.args.rules.now) c.deref-literal-items.result.now c.loop-literal.literal-index c.literal-item.result c.loop-literal.sum c.weigh-weight.result c.min-sum.result
      c.loop-literal-test.true c.literal-item.is c.loop-literal.invariant.sum c.weigh-weight.ensures.weighed.weight (c.min-sum.ensures ∙ ap (λ n. min n 2147483647) c.saturating_add.ensures);
  room = c.weigh-weight.ensures.room ∙ c.clear.ensures.capacity ∙ c.loop-literal.invariant.room;
  bindings = c.weigh-weight.ensures.bindings ∙ c.loop-literal.invariant.bindings;
}
