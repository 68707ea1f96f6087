use Rattle.std.proofs.Common.{◌≡◌, ℕ, ◌<◌, List, length, get_or, sym, ap, ◌∙◌, subst, arith}
use Rattle.mace_cells.specs.World.{World, cell_of, many_cells}
use Rattle.mace_ground.specs.Cells.{cells_in, cell_at}
use Rattle.model_tables.specs.Size.{bound_of}
use Rattle.cell_search.proofs.Bounding.{bounds_many, bound_at, bound_fits, bound_some}
use Rattle.cell_search.proofs.setup.Setup.bound.Goals as goal

pub index-requires : goal.index-requires
index-requires c =
    let a = c.self.inside in
    let within : c.args.cell < cells_in a.ground.size a.ground.blocks = subst (λ (w : World). c.args.cell < many_cells w) (sym c.self.view_is) c.requires in
    let many : length a.bounds.items ≡ cells_in a.ground.size a.ground.blocks = ap (λ (xs : List ℕ). length xs) c.self.invariant.bounds ∙ bounds_many a.ground.size a.ground.blocks in
    omega (arith, within, many, a.bounds.ok)

pub returns-clause-bound : goal.returns-clause-bound
returns-clause-bound c =
    let a = c.self.inside in
    let within : c.args.cell < cells_in a.ground.size a.ground.blocks = subst (λ (w : World). c.args.cell < many_cells w) (sym c.self.view_is) c.requires in
    c.from.ensures ∙ c.index.ensures ∙ ap (λ (xs : List ℕ). get_or xs c.args.cell c.index.result.now) c.self.invariant.bounds ∙ bound_at a.ground.size a.ground.blocks c.args.cell c.index.result.now within
    ∙ ap (λ (w : World). bound_of w.size (cell_of w c.args.cell).kind) c.self.view_is

pub returns-clause-fits : goal.returns-clause-fits
returns-clause-fits c =
    let a = c.self.inside in
    let within : c.args.cell < cells_in a.ground.size a.ground.blocks = subst (λ (w : World). c.args.cell < many_cells w) (sym c.self.view_is) c.requires in
    let same : c.from.result ≡ bound_of a.ground.size (cell_at a.ground.size a.ground.blocks c.args.cell).kind =
    c.from.ensures ∙ c.index.ensures ∙ ap (λ (xs : List ℕ). get_or xs c.args.cell c.index.result.now) c.self.invariant.bounds ∙ bound_at a.ground.size a.ground.blocks c.args.cell c.index.result.now within in
    let size : a.ground.size ≡ c.args.self.now.size = ap (λ (w : World). w.size) c.self.view_is in
    omega (arith, same, size, bound_fits a.ground.size (cell_at a.ground.size a.ground.blocks c.args.cell).kind)

pub returns-clause-some : goal.returns-clause-some
returns-clause-some c =
    let a = c.self.inside in
    let within : c.args.cell < cells_in a.ground.size a.ground.blocks = subst (λ (w : World). c.args.cell < many_cells w) (sym c.self.view_is) c.requires in
    let same : c.from.result ≡ bound_of a.ground.size (cell_at a.ground.size a.ground.blocks c.args.cell).kind =
    c.from.ensures ∙ c.index.ensures ∙ ap (λ (xs : List ℕ). get_or xs c.args.cell c.index.result.now) c.self.invariant.bounds ∙ bound_at a.ground.size a.ground.blocks c.args.cell c.index.result.now within in
    omega (arith, same, bound_some a.ground.size (cell_at a.ground.size a.ground.blocks c.args.cell).kind c.self.invariant.some)
