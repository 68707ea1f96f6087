use Rattle.std.proofs.Common.{◌≡◌, IfOk, List, subst, ap, ap₂, ◌∙◌}
use Rattle.std.specs.Option.{option_map}
use Rattle.given_clause.specs.Acting.{may_conflict, conflicts_with, first_in}
use Rattle.given_clause.specs.States.{state_of}
use Rattle.held_clauses.specs.Holding.{lent}
use Rattle.prover_steps.specs.Concluded.{Conclusion}
use Rattle.prover_steps.specs.HeldOrder.{merged_held}
use Rattle.prover_steps.specs.Searching.{all_held}
use Rattle.resolution.specs.View.{conclusion_of}
use Rattle.given_clause.proofs.Narrowed.{conflicts_there}
use Rattle.given_clause.proofs.Others.{kept_of_both}
use Rattle.given_clause.proofs.acting.conflict.Goals as goal

pub returns-clause-made : goal.returns-clause-made
returns-clause-made c =
    let s = state_of c.args.search.now in
    let h = c.args.held.now in
    subst (λ (ns : List Conclusion). IfOk c.first_conflict.result (λ o. option_map conclusion_of o ≡ first_in ns))
    (ap (λ us. conflicts_with us h)
    (ap lent c.as_slice-3.ensures.value ∙ c.in_ok-units.ensures
    ∙ ap₂ merged_held (ap lent c.as_slice.ensures.value ∙ c.in_ok-waiting.ensures.found) (ap lent c.as_slice-2.ensures.value ∙ c.in_ok-usable.ensures.found)
    ∙ kept_of_both (may_conflict h) s c.requires)
    ∙ conflicts_there h (all_held s))
    c.first_conflict.ensures
