use Rattle.std.proofs.Common.{◌∙◌, arith}
use Rattle.std.proofs.lemmas.List.{length-set}
use Rattle.model_tables.proofs.Elements.{there, same_room, zero_each, zero_more}
use Rattle.model_tables.proofs.closures.clear.Goals as goal

pub set-requires : goal.set-requires
set-requires c = there c.args.variables.now c.loop-variable.env c.loop-variable.variable-index (same_room _ _ _ c.loop-variable.invariant.room c.requires) c.loop-variable-test.true

pub loop-variable-preserved : goal.loop-variable-preserved
loop-variable-preserved c = rw c.set.ensures (record {
  room = length-set _ _ _ ∙ c.loop-variable.invariant.room;
  zero = zero_more _ _ _ (there c.args.variables.now c.loop-variable.env c.loop-variable.variable-index (same_room _ _ _ c.loop-variable.invariant.room c.requires) c.loop-variable-test.true)
      c.loop-variable.invariant.zero;
})

pub returns-clause-zero : goal.returns-clause-zero
returns-clause-zero c = zero_each _ _ (λ k l. c.loop-variable.invariant.zero k (omega arith))
