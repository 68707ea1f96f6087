use Rattle.std.proofs.Common.{arith}
use Rattle.fol_core.specs.ClauseView.{literal_of}
use Rattle.fol_core.specs.declared.clause.Literal.{Literal}
use Rattle.held_clauses.specs.Order.{greater_of}
use Rattle.paramod.specs.Partners.{by_terms}
use Rattle.paramod.proofs.Gathered.{none_asked, next_asked, each_asked}
use Rattle.paramod.proofs.partners.add_by_terms_each.Goals as goal

pub loop-literal-init : goal.loop-literal-init
loop-literal-init c = none_asked c.args.numbers.now.items

pub loop-literal-preserved : goal.loop-literal-preserved
loop-literal-preserved c =
    next_asked (λ (k : Literal). by_terms (greater_of c.args.precedence.now) c.args.held.now (literal_of k)) c.args.literals.now c.loop-literal.literal-index c.literal-item.result c.args.numbers.now.items
    c.loop-literal.numbers.items _ (omega arith) c.literal-item.is c.loop-literal.invariant c.in_ok-add_by_terms.ensures

pub returns : goal.returns
returns c =
    each_asked (λ (k : Literal). by_terms (greater_of c.args.precedence.now) c.args.held.now (literal_of k)) c.args.literals.now c.loop-literal.literal-index c.args.numbers.now.items
    c.loop-literal.numbers.items (omega arith) c.loop-literal.invariant
