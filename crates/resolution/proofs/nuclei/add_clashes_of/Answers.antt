use Rattle.std.proofs.Common.{false, ap, sym, ◌∙◌, subst}
use Rattle.prover_steps.specs.Clashing.{has_negative, places_with, positive_partners}
use Rattle.resolution.specs.Trying.{all_tried}
use Rattle.resolution.specs.View.{all_conclusions}
use Rattle.resolution.specs.Ways.{StandForEach}
use Rattle.resolution.proofs.Going.{tried_none, tried_some}
use Rattle.resolution.proofs.Nucleated.{hyper_at}
use Rattle.resolution.proofs.nuclei.add_clashes_of.Goals as goal

pub returns-then-not-has_negative : goal.returns-then-not-has_negative
returns-then-not-has_negative c =
    let n = c.args.nucleus.now in
    tried_none (has_negative n.clause) (all_conclusions c.args.made.now.items) (hyper_at c.args.held.now c.args.given.now n)
    (ap has_negative (sym c.clause.ensures) ∙ sym c.has_negative.ensures ∙ c.if-not-has_negative.true)

pub returns : goal.returns
returns c =
    let n = c.args.nucleus.now in
    let all = positive_partners c.args.held.now in
    tried_some (has_negative n.clause) (all_conclusions c.args.made.now.items) (hyper_at c.args.held.now c.args.given.now n) _
    (ap has_negative (sym c.clause.ensures) ∙ sym c.has_negative.ensures ∙ c.if-not-has_negative.false)
    (c.in_ok-add_clashes.ensures (places_with false n.clause) all
    (subst (λ ms. StandForEach n.clause (all_tried ms) (places_with false n.clause) all) (sym c.as_slice.ensures.value)
    (subst (λ d. StandForEach d (all_tried c.in_ok-places.places.items) (places_with false d) all) c.clause-2.ensures c.in_ok-places.ensures)))
