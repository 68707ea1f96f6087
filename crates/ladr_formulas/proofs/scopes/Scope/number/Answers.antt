use Rattle.std.proofs.Common.{◌∙◌, List, ℕ, sym, ap}
use Rattle.std.proofs.lemmas.Bool.{cond-true, cond-false}
use Rattle.std.specs.Str.{bytes_eq}
use Rattle.ladr_formulas.proofs.ScopeLemmas.{bound_number_more}
use Rattle.ladr_formulas.proofs.scopes.Scope.number.Goals as goal
use Rattle.ladr_formulas.proofs.scopes.Scope.number.Goals.{then-eq, else-eq}

pub loop-binding-preserved : goal.loop-binding-preserved
loop-binding-preserved c =
    let more = bound_number_more c.deref-binding-items.result.now c.loop-binding.binding-index c.binding-item.result c.args.name.now c.loop-binding-test.true c.binding-item.is in
    let name = ap (λ (n : List ℕ). bytes_eq n c.args.name.now) (sym c.bytes.ensures) in
    elim c.if-eq.branch [
      | then-eq w ↦ w.number-is ∙ sym (more ∙ cond-true _ _ _ (name ∙ sym w.if-eq.ensures))
      | else-eq w ↦ w.number-is ∙ c.loop-binding.invariant ∙ sym (more ∙ cond-false _ _ _ (name ∙ sym w.if-eq.ensures))
    ]
