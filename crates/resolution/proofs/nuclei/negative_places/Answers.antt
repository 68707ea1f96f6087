use Rattle.std.proofs.Common.{Bool, false, [], ◌∷◌, ◌++◌, if◌then◌else◌, filter, take, subst, ap, ◌∙◌, arith}
use Rattle.derivation.specs.Places.{has_literal}
use Rattle.prover_steps.specs.Clashing.{places_of}
use Rattle.resolution.specs.Trying.{partners_by, all_tried}
use Rattle.resolution.specs.Ways.{StandForEach}
use Rattle.resolution.specs.declared.partners.ClashKind.TheVariants.{Hyper}
use Rattle.resolution.proofs.AllWays.{kept_next, kept_all}
use Rattle.resolution.proofs.nuclei.negative_places.Goals as goal

pub loop-place-preserved : goal.loop-place-preserved
loop-place-preserved c =
    let d = c.args.nucleus.now in
    let i = c.loop-place.place in
    let before = filter (has_literal false d) (take i (places_of d)) in
    subst (λ ns. StandForEach d (all_tried c.add_place.new.places.items) ns (partners_by Hyper c.args.held.now))
    (ap (λ (b : Bool). before ++ (if b then i ∷ [] else [])) c.has_literal-wanted.ensures ∙ kept_next (has_literal false d) d i (omega arith)) (c.in_ok-add_place.ensures before c.loop-place.invariant)

pub returns : goal.returns
returns c =
    let d = c.args.nucleus.now in
    subst (λ ns. StandForEach d (all_tried c.loop-place.places.items) ns (partners_by Hyper c.args.held.now)) (kept_all (has_literal false d) d c.loop-place.place (omega arith)) c.loop-place.invariant
