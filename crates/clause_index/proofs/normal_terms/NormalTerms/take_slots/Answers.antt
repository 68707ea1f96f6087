use Rattle.std.proofs.Common.{refl, sym, subst}
use Rattle.fol_core.specs.TermView.{tree_list}
use Rattle.clause_index.specs.Normal.{HaveNoStep}
use Rattle.clause_index.proofs.Noting.{step_none_more}
use Rattle.clause_index.proofs.normal_terms.NormalTerms.take_slots.Goals as goal

pub returns-in-Err : goal.returns-in-Err
returns-in-Err c = λ rs all. subst (λ ts. HaveNoStep rs (tree_list ts)) (sym c.in-Err.ensures.items) (c.loop-slot.invariant rs all)

pub loop-slot-preserved : goal.loop-slot-preserved
loop-slot-preserved c = λ rs all.
    subst (λ ts. HaveNoStep rs (tree_list ts)) (sym c.in-Ok.ensures.items) (step_none_more rs c.loop-slot.self-inside.slots.items _ (c.loop-slot.invariant rs all) refl)
