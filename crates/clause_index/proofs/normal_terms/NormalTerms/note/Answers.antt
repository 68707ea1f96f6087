use Rattle.std.proofs.Common.{set, ap, sym, ◌∙◌, subst}
use Rattle.fol_core.specs.TermView.{tree_of, tree_list}
use Rattle.prover_steps.specs.Rewriting.{first_step}
use Rattle.clause_index.specs.Normal.{HaveNoStep}
use Rattle.clause_index.proofs.Noting.{step_none_set}
use Rattle.clause_index.proofs.normal_terms.NormalTerms.note.Goals.{in-App-1, in-Var-1}
use Rattle.clause_index.proofs.normal_terms.NormalTerms.note.Goals as goal

pub returns-then-slot-len : goal.returns-then-slot-len
returns-then-slot-len c = λ rs all none.
    let after : HaveNoStep rs (tree_list (set c.self.inside.slots.items c.in-Some.slot c.in-Ok.copy)) =
    step_none_set rs c.self.inside.slots.items c.in-Some.slot c.in-Ok.copy (subst (HaveNoStep rs) (sym c.self.view_is) (c.take_slots.ensures rs all))
    (ap (λ t. first_step rs (tree_of t)) c.in-Ok.ensures ∙ none)
    in
    elim c.match-index_mut-copy.branch [ in-App-1 w ↦ subst (HaveNoStep rs) (sym w.self-is) after | in-Var-1 w ↦ subst (HaveNoStep rs) (sym w.self-is) after ]

pub returns-else-slot-len : goal.returns-else-slot-len
returns-else-slot-len c = λ rs all none. c.take_slots.ensures rs all
