-- One argument further.
use Rattle.std.proofs.Common.{◌∙◌, slice_index_or, vec_capacity, []}
use Rattle.term_bank.specs.declared.id.TermId.{TermId}
use Rattle.unify.proofs.Closing.{can_add, in_at, longer_on}
use Rattle.unify.proofs.Spreads.{spread_next, spread_all}
use Rattle.unify.proofs.reaching.spread.Goals as goal

pub add-requires : goal.add-requires
add-requires c =
    let zero : TermId = record { 0 = 0 } in
    can_add c.args.bank.now c.args.bound.now.items c.args.reached.now.items c.loop-argument.reached.items (vec_capacity c.args.reached.now) (vec_capacity c.loop-argument.reached) c.args.arguments.now c.args.context
    (slice_index_or c.args.arguments.now c.loop-argument.argument-index zero) c.requires c.loop-argument.invariant.longer
    (in_at c.args.arguments.now c.loop-argument.argument-index zero c.loop-argument-test.true) c.loop-argument.invariant.reaching

pub loop-argument-preserved : goal.loop-argument-preserved
loop-argument-preserved c =
    let zero : TermId = record { 0 = 0 } in
    record {
      reaching = c.add.ensures.adds.reaching;
      longer = longer_on c.args.reached.now.items c.loop-argument.reached.items c.add.new.reached.items c.loop-argument.invariant.longer c.add.ensures.adds.longer;
      added = spread_next c.args.bank.now c.args.bound.now.items [] c.loop-argument.reached.items c.add.new.reached.items c.args.context c.loop-argument.argument-index c.args.arguments.now zero
          (vec_capacity c.add.new.reached) c.loop-argument-test.true c.loop-argument.invariant.added c.add.ensures.adds;
      room = c.add.ensures.room ∙ c.loop-argument.invariant.room;
    }

pub returns-clause-spreads : goal.returns-clause-spreads
returns-clause-spreads c = record {
  reaching = c.loop-argument.invariant.reaching;
  longer = c.loop-argument.invariant.longer;
  added = spread_all c.args.bank.now c.args.bound.now.items c.loop-argument.reached.items c.args.context c.loop-argument.argument-index c.args.arguments.now c.loop-argument-test.false c.loop-argument.invariant.added;
}
