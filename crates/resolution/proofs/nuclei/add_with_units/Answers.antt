use Rattle.std.proofs.Common.{not, ◌==◌, filter, sym, subst}
use Rattle.prover_steps.specs.Clashing.{places_of, unit_partners}
use Rattle.resolution.specs.Trying.{all_tried}
use Rattle.resolution.specs.Ways.{StandForEach}
use Rattle.resolution.proofs.AllWays.{units_are}
use Rattle.resolution.proofs.nuclei.add_with_units.Goals as goal

pub returns : goal.returns
returns c =
    let n = c.args.nucleus.now in
    let held = c.args.held.now in
    c.in_ok-add_clashes.ensures (filter (λ k. not (k == c.args.left)) (places_of n.clause)) (unit_partners held)
    (subst (λ ms. StandForEach n.clause (all_tried ms) (filter (λ k. not (k == c.args.left)) (places_of n.clause)) (unit_partners held)) (sym c.as_slice.ensures.value)
    (subst (λ d. StandForEach d (all_tried c.in_ok-places.places.items) (filter (λ k. not (k == c.args.left)) (places_of d)) (unit_partners held)) c.clause.ensures
    (subst (StandForEach c.clause.result.now (all_tried c.in_ok-places.places.items) (filter (λ k. not (k == c.args.left)) (places_of c.clause.result.now))) (units_are held) c.in_ok-places.ensures)))
