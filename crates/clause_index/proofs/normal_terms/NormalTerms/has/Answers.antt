use Rattle.std.proofs.Common.{ap, sym, ◌∙◌, subst, ltb-true}
use Rattle.fol_core.specs.TermView.{tree_of, tree_list}
use Rattle.clause_index.specs.Normal.{HaveNoStep}
use Rattle.clause_index.proofs.Noting.{step_none_there}
use Rattle.clause_index.proofs.normal_terms.NormalTerms.has.Goals as goal

pub returns-in-Some-get : goal.returns-in-Some-get
returns-in-Some-get c = λ rs all yes.
    step_none_there rs c.deref.result.now c.in-Some.slot c.in-Some-get.noted.now (tree_of c.args.term.now)
    (subst (HaveNoStep rs) (sym (ap tree_list c.deref.ensures.value ∙ c.self.view_is)) all)
    (ltb-true _ _ (sym c.in-Some-get.ensures.lookup.0)) c.in-Some-get.ensures.lookup.1 (c.same.ensures.0 yes)
