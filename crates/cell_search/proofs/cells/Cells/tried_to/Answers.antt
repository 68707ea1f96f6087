use Rattle.std.proofs.Common.{◌≡◌, ℕ, ◌<◌, max, sym, ap, subst, ◌∙◌, arith}
use Rattle.mace_cells.specs.Numbers.{above_used, greatest_tried}
use Rattle.mace_cells.specs.World.{IsBound, cell_of, many_cells}
use Rattle.mace_cells.specs.declared.way.Way.{Way}
use Rattle.model_tables.specs.Size.{bound_of}
use Rattle.cell_search.specs.Positions.{BoardPosition}
use Rattle.cell_search.specs.Losses.{decided_in}
use Rattle.cell_search.proofs.Preferring.{many_shapes}
use Rattle.cell_search.proofs.Using.{shape_read, tried_is, bound_tried}
use Rattle.cell_search.proofs.cells.Cells.tried_to.Goals as goal

pub index-shape-requires : goal.index-shape-requires
index-shape-requires c =
    let a = c.self.inside in
    let within = subst (λ (p : BoardPosition). c.args.cell < many_cells p.world) (sym c.self.view_is) c.requires in
    omega (arith, within, many_shapes a.setup a.shapes.items c.self.invariant.shapes)

pub greatest_tried-requires-clause-bound : goal.greatest_tried-requires-clause-bound
greatest_tried-requires-clause-bound c =
    let a = c.self.inside in
    let within = subst (λ (p : BoardPosition). c.args.cell < many_cells p.world) (sym c.self.view_is) c.requires in
    let shape = shape_read a.setup a.shapes.items c.args.cell c.index-shape.result.now c.self.invariant.shapes within c.index-shape.ensures in
    c.bound-bound.ensures.bound ∙ (λ i. bound_of (sym c.size.ensures.size i) (sym shape i).kind)

pub returns-clause-tried : goal.returns-clause-tried
returns-clause-tried c =
    let a = c.self.inside in
    let within = subst (λ (p : BoardPosition). c.args.cell < many_cells p.world) (sym c.self.view_is) c.requires in
    let shape = shape_read a.setup a.shapes.items c.args.cell c.index-shape.result.now c.self.invariant.shapes within c.index-shape.ensures in
    let used = c.in_use.ensures ∙ ap (λ (p : BoardPosition). above_used p.world.fixed (decided_in p.world p.table.entries)) (sym c.self.view_is) in
    tried_is a.setup (decided_in a.setup a.trail.entries) (cell_of a.setup c.args.cell) c.index-shape.result.now c.way-least_numbers.result.least_numbers c.size.result c.in_use.result c.greatest_tried.result shape (ap (λ (v : Way). v.least_numbers) c.way-least_numbers.ensures) c.size.ensures.size used c.greatest_tried.ensures.tried
    ∙ ap (λ (p : BoardPosition). greatest_tried p.world (decided_in p.world p.table.entries) (cell_of p.world c.args.cell)) c.self.view_is

pub returns-clause-bound : goal.returns-clause-bound
returns-clause-bound c =
    let a = c.self.inside in
    let within = subst (λ (p : BoardPosition). c.args.cell < many_cells p.world) (sym c.self.view_is) c.requires in
    let shape = shape_read a.setup a.shapes.items c.args.cell c.index-shape.result.now c.self.invariant.shapes within c.index-shape.ensures in
    let used = c.in_use.ensures ∙ ap (λ (p : BoardPosition). above_used p.world.fixed (decided_in p.world p.table.entries)) (sym c.self.view_is) in
    let here = bound_tried a.setup c.self.invariant.searchable (decided_in a.setup a.trail.entries) c.args.cell within in
    let is : c.greatest_tried.result ≡ greatest_tried a.setup (decided_in a.setup a.trail.entries) (cell_of a.setup c.args.cell) =
    tried_is a.setup (decided_in a.setup a.trail.entries) (cell_of a.setup c.args.cell) c.index-shape.result.now c.way-least_numbers.result.least_numbers c.size.result c.in_use.result c.greatest_tried.result shape (ap (λ (v : Way). v.least_numbers) c.way-least_numbers.ensures) c.size.ensures.size used c.greatest_tried.ensures.tried in
    subst (λ (p : BoardPosition). IsBound p.world (decided_in p.world p.table.entries) (cell_of p.world c.args.cell) c.greatest_tried.result) c.self.view_is
    (subst (λ (v : ℕ). IsBound a.setup (decided_in a.setup a.trail.entries) (cell_of a.setup c.args.cell) v) (sym is) here)

pub returns-clause-fits : goal.returns-clause-fits
returns-clause-fits c = subst (λ (p : BoardPosition). c.greatest_tried.result < max p.world.size 2) c.self.view_is (omega (arith, c.greatest_tried.ensures.below, c.bound-bound.ensures.fits))
