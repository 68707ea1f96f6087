use Rattle.std.proofs.Common.{◌≡◌, ◌&&◌, IfOk, List, not, subst, ap, ap₂, ◌∙◌}
use Rattle.given_clause.specs.Acting.{acts_on}
use Rattle.given_clause.specs.States.{state_of}
use Rattle.held_clauses.specs.Holding.{lent}
use Rattle.prover_steps.specs.Clashing.{Held, is_same_held}
use Rattle.prover_steps.specs.HeldOrder.{merged_held}
use Rattle.given_clause.proofs.Others.{kept_of_both}
use Rattle.given_clause.proofs.acting.others_held.Goals as goal

pub returns : goal.returns
returns c =
    let test = λ (d : Held). not (is_same_held c.args.held.now d) && acts_on c.args.act c.args.held.now d.clause in
    subst (λ (ks : List Held). IfOk c.copies_of.result (λ hs. hs.items ≡ ks))
    (ap lent c.as_slice-3.ensures.value ∙ c.in_ok-others.ensures
    ∙ ap₂ merged_held (ap lent c.as_slice.ensures.value ∙ c.in_ok-waiting.ensures) (ap lent c.as_slice-2.ensures.value ∙ c.in_ok-usable.ensures)
    ∙ kept_of_both test (state_of c.args.search.now) c.requires)
    c.copies_of.ensures
