use Rattle.std.proofs.Common.{ap, ◌∙◌}
use Rattle.mace_cells.specs.Numbers.{above_used}
use Rattle.cell_search.specs.Positions.{BoardPosition}
use Rattle.cell_search.specs.Losses.{decided_in}
use Rattle.cell_search.proofs.Using.{top_used, none_used}
use Rattle.cell_search.proofs.cells.Cells.in_use.Goals as goal

pub returns-in-Some : goal.returns-in-Some
returns-in-Some c =
    let a = c.self.inside in
    top_used a.setup.fixed (decided_in a.setup a.trail.entries) a.uses.list c.in-Some.ensures.0 c.in-Some.used c.self.invariant.uses c.in-Some.ensures.1
    ∙ ap (λ (p : BoardPosition). above_used p.world.fixed (decided_in p.world p.table.entries)) c.self.view_is

pub returns-in-None : goal.returns-in-None
returns-in-None c =
    let a = c.self.inside in
    c.fixed.ensures ∙ none_used a.setup.fixed (decided_in a.setup a.trail.entries) a.uses.list c.self.invariant.uses c.in-None.ensures
    ∙ ap (λ (p : BoardPosition). above_used p.world.fixed (decided_in p.world p.table.entries)) c.self.view_is
