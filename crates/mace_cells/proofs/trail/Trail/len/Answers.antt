use Rattle.std.proofs.Common.{◌≤◌, length, subst}
use Rattle.mace_cells.specs.Trails.{Partial}
use Rattle.mace_cells.proofs.Making.{few_made}
use Rattle.mace_cells.proofs.trail.Trail.len.Goals as goal

pub returns-clause-few : goal.returns-clause-few
returns-clause-few c = subst (λ (p : Partial). length p.entries ≤ p.many) c.self.view_is (few_made c.self.inside.entries.list c.self.inside.values.items c.self.invariant.values)
