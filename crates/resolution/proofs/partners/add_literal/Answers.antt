use Rattle.std.proofs.Common.{[], ◌∷◌, map, flat_map, subst, ap, ◌∙◌}
use Rattle.std.proofs.lemmas.List.{map-append}
use Rattle.resolution.specs.Meeting.{NeverClash}
use Rattle.resolution.specs.Trying.{partner_of}
use Rattle.resolution.proofs.Standing.{stand_out}
use Rattle.resolution.proofs.partners.add_literal.Goals as goal

pub returns-then-not-may_clash : goal.returns-then-not-may_clash
returns-then-not-may_clash c =
    stand_out c.args.nucleus.now c.args.place (map partner_of c.args.candidates.now.items) (c.args.held.now, c.args.literal)
    (subst (λ d. NeverClash c.args.nucleus.now c.args.place d c.args.literal) c.clause.ensures (c.may_clash.ensures c.if-not-may_clash.true))

pub returns : goal.returns
returns c = λ f out.
    ap (λ items. flat_map f (map partner_of items)) c.in_ok-push.ensures.items
    ∙ ap (flat_map f) (map-append partner_of c.args.candidates.now.items (record { held = c.args.held; literal = c.args.literal } ∷ []))
