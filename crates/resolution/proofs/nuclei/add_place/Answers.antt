use Rattle.std.proofs.Common.{◌≡◌, Bool, [], ◌∷◌, ◌++◌, if◌then◌else◌, subst, ap, sym, ◌∙◌}
use Rattle.std.proofs.lemmas.List.{append-nil, map-append}
use Rattle.resolution.specs.Trying.{partners_by, tried_at, all_tried}
use Rattle.resolution.specs.Ways.{StandForEach}
use Rattle.resolution.specs.declared.partners.Meetings.{Meetings}
use Rattle.resolution.proofs.AllWays.{stand_on}
use Rattle.resolution.proofs.nuclei.add_place.Goals as goal

pub returns-then-not-wanted : goal.returns-then-not-wanted
returns-then-not-wanted c = λ ks each.
    subst (λ ns. StandForEach c.args.nucleus.now (all_tried c.args.places.now.items) ns (partners_by c.args.kind c.args.held.now))
    (sym (ap (λ (b : Bool). ks ++ (if b then c.args.place ∷ [] else [])) c.if-not-wanted.true ∙ append-nil ks)) each

pub returns : goal.returns
returns c = λ ks each.
    let all = partners_by c.args.kind c.args.held.now in
    let here : Meetings = record { place = c.args.place; candidates = c.in_ok-candidates.candidates } in
    let old = c.args.places.now.items in
    let tried : all_tried c.push.new.self.items ≡ all_tried old ++ tried_at here ∷ [] = ap all_tried c.in_ok-push.ensures.items ∙ map-append tried_at old (here ∷ []) in
    subst (λ ns. StandForEach c.args.nucleus.now (all_tried c.push.new.self.items) ns all) (ap (λ (b : Bool). ks ++ (if b then c.args.place ∷ [] else [])) (sym c.if-not-wanted.false))
    (subst (λ ts. StandForEach c.args.nucleus.now ts (ks ++ c.args.place ∷ []) all) (sym tried)
    (stand_on c.args.nucleus.now all (all_tried old) ks (tried_at here) each c.in_ok-candidates.ensures))
