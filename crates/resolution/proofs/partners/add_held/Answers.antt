use Rattle.std.proofs.Common.{ap, sym, ◌∙◌, map}
use Rattle.resolution.specs.Trying.{is_satellite, partners_in, partner_of}
use Rattle.resolution.proofs.Standing.{stand_none, stand_some}
use Rattle.resolution.proofs.partners.add_held.Goals as goal

pub returns-then-not-is_satellite : goal.returns-then-not-is_satellite
returns-then-not-is_satellite c =
    let h = c.args.held.now in
    stand_none c.args.nucleus.now c.args.place (map partner_of c.args.candidates.now.items) (is_satellite c.args.kind h.clause) (partners_in h)
    (ap (is_satellite c.args.kind) (sym c.clause.ensures) ∙ sym c.is_satellite.ensures ∙ c.if-not-is_satellite.true)

pub returns : goal.returns
returns c =
    let h = c.args.held.now in
    stand_some c.args.nucleus.now c.args.place (map partner_of c.args.candidates.now.items) _ (is_satellite c.args.kind h.clause) (partners_in h)
    (ap (is_satellite c.args.kind) (sym c.clause.ensures) ∙ sym c.is_satellite.ensures ∙ c.if-not-is_satellite.false) c.in_ok-add_literals.ensures
