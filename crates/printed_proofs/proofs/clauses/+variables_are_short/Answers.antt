use Rattle.std.proofs.Common.{List, sym, ap, ◌∙◌, subst}
use Rattle.fol_core.specs.Free.{variables_of_all}
use Rattle.fol_core.specs.TermView.{tree_list}
use Rattle.fol_core.specs.Tree.{Tree, trees_of}
use Rattle.words_print.specs.Sayable.{AreShort}
use Rattle.printed_proofs.proofs.Variables.{IsShortTerm, terms_all}
use Rattle.printed_proofs.proofs.BoundedLists.{more, all}
use Rattle.printed_proofs.proofs.clauses.+variables_are_short.Goals as goal

pub loop-part-preserved : goal.loop-part-preserved
loop-part-preserved t c =
    more IsShortTerm c.deref-part-items.result.now c.loop-part.part-index c.part-item.result c.loop-part-test.true c.part-item.is c.loop-part.invariant c.variables_are_short.ensures

pub returns-after-loop-part : goal.returns-after-loop-part
returns-after-loop-part t c =
    let ts = c.deref-part-items.result.now in
    subst IsShortTerm (sym c.in-App.is)
    (subst (λ (us : List Tree). AreShort (variables_of_all (trees_of us))) (ap tree_list c.deref-part-items.ensures.value ∙ c.terms.view_is)
    (terms_all ts (all IsShortTerm ts c.loop-part.part-index c.loop-part-test.false c.loop-part.invariant)))
