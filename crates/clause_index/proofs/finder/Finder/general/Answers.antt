use Rattle.std.proofs.Common.{arith}
use Rattle.clause_index.proofs.General.{general_found, general_next}
use Rattle.clause_index.proofs.finder.Finder.general.Goals as goal

pub returns-clause-found : goal.returns-clause-found
returns-clause-found c =
    general_found c.args.self.now c.args.clause.now c.as_slice-literal-items.result.now c.loop-literal.literal-index c.loop-literal.numbers.items c.put_in_order.new.numbers.items
    c.as_slice-literal-items.ensures.literals (omega (arith, c.loop-literal-test.false)) c.loop-literal.invariant c.put_in_order.ensures.kept

pub loop-literal-preserved : goal.loop-literal-preserved
loop-literal-preserved c =
    general_next c.args.self.now c.as_slice-literal-items.result.now c.loop-literal.literal-index c.literal-item.result c.loop-literal.numbers.items c.add_general.new.numbers.items
    c.loop-literal-test.true c.literal-item.is c.loop-literal.invariant c.in_ok-add_general.ensures
