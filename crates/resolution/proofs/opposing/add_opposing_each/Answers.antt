use Rattle.std.proofs.Common.{filter, arith}
use Rattle.fol_core.specs.ClauseView.{literal_of}
use Rattle.fol_core.specs.declared.clause.Literal.{Literal}
use Rattle.prover_steps.specs.HeldOrder.{numbers_of}
use Rattle.resolution.specs.Opposing.{opposes}
use Rattle.resolution.proofs.Going.{flat_added, flat_all}
use Rattle.resolution.proofs.opposing.add_opposing_each.Goals as goal

pub loop-literal-preserved : goal.loop-literal-preserved
loop-literal-preserved c =
    flat_added (λ (k : Literal). numbers_of (filter (opposes (literal_of k)) c.args.held.now)) c.args.literals.now c.loop-literal.literal-index c.literal-item.result c.args.numbers.now.items
    c.loop-literal.numbers.items _ (omega arith) c.literal-item.is c.loop-literal.invariant c.in_ok-add_opposing.ensures

pub returns : goal.returns
returns c =
    flat_all (λ (k : Literal). numbers_of (filter (opposes (literal_of k)) c.args.held.now)) c.args.literals.now c.loop-literal.literal-index c.args.numbers.now.items c.loop-literal.numbers.items
    (omega arith) c.loop-literal.invariant
