use Rattle.std.proofs.Common.{map, ap, ◌∙◌, subst}
use Rattle.fol_core.specs.ClauseView.{literal_of}
use Rattle.printed_proofs.specs.LineBounds.{HasFewVariables}
use Rattle.printed_proofs.proofs.Variables.{IsShortLiteral, few}
use Rattle.printed_proofs.proofs.BoundedLists.{more, all}
use Rattle.printed_proofs.proofs.clauses.variables_are_few.Goals as goal

pub loop-literal-preserved : goal.loop-literal-preserved
loop-literal-preserved c =
    more IsShortLiteral c.deref-literal-items.result.now c.loop-literal.literal-index c.literal-item.result c.loop-literal-test.true c.literal-item.is c.loop-literal.invariant c.variables_are_short.ensures

pub returns : goal.returns
returns c =
    let ls = c.deref-literal-items.result.now in
    subst HasFewVariables (ap (map literal_of) c.deref-literal-items.ensures.value ∙ c.clause.view_is)
    (few ls (all IsShortLiteral ls c.loop-literal.literal-index c.loop-literal-test.false c.loop-literal.invariant))
