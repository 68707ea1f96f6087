use Rattle.std.proofs.Common.{◌<◌, refl, subst}
use Rattle.mace_cells.specs.Stacked.{IsItemAt}
use Rattle.mace_cells.specs.Trails.{Partial}
use Rattle.mace_cells.proofs.Making.{made_within}
use Rattle.mace_cells.proofs.trail.Trail.cell_at.Goals as goal

pub returns-clause-within : goal.returns-clause-within
returns-clause-within c =
    let within = made_within _ c.self.inside.entries.list c.get.ensures.0 c.get.ensures.1.0 c.get.result c.self.inside.values.items c.self.invariant.values c.get.ensures.1.1 in
    subst (λ (p : Partial). c.get.result.cell < p.many) c.self.view_is within

pub returns-clause-entry : goal.returns-clause-entry
returns-clause-entry c = (c.get.result, subst (λ (p : Partial). IsItemAt p.entries c.args.step c.get.result) c.self.view_is c.get.ensures, refl)
