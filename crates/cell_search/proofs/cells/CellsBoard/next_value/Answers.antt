use Rattle.std.proofs.Common.{◌≡◌, ℕ, ◌<◌, None, sym, subst}
use Rattle.cell_driver.specs.Boards.{HasNext}
use Rattle.mace_cells.specs.Trails.{value_in}
use Rattle.mace_cells.specs.World.{IsNextValue, cell_of, many_cells}
use Rattle.model_tables.specs.Size.{bound_of}
use Rattle.plain_search.specs.Lefts.{IsAmong}
use Rattle.cell_search.specs.Losses.{decided_in}
use Rattle.cell_search.specs.Phases.{IsClosedTable}
use Rattle.cell_search.specs.Positions.{BoardPosition, IsLeast}
use Rattle.cell_search.specs.Viewing.{left_in}
use Rattle.cell_search.proofs.Standing.{has_next, is_left, is_next}
use Rattle.cell_search.proofs.cells.CellsBoard.next_value.Goals as goal

pub returns-clause-first : goal.returns-clause-first
returns-clause-first c =
    let a = c.self.inside in
    let within = subst (λ (p : BoardPosition). c.args.cell < many_cells p.world) (sym c.self.view_is) c.requires.cell in
    let closed = subst (λ (p : BoardPosition). IsClosedTable p.world p.table) (sym c.self.view_is) c.requires.closed in
    let opened = subst (λ (p : BoardPosition). value_in p.table.entries c.args.cell ≡ None) (sym c.self.view_is) c.requires.open in
    let least = subst (λ (n : ℕ). IsLeast a.trail c.args.cell c.args.from c.args.most n c.least.result) c.bound.ensures.bound c.least.ensures in
    subst (λ (p : BoardPosition). HasNext p.world (decided_in p.world p.table.entries) (cell_of p.world c.args.cell) c.args.from c.args.most c.least.result) c.self.view_is
    (has_next a.setup a.trail c.self.invariant.board c.self.invariant.searchable closed c.args.cell c.args.from c.args.most c.least.result within opened least)

pub returns-clause-next : goal.returns-clause-next
returns-clause-next c =
    let a = c.self.inside in
    let within = subst (λ (p : BoardPosition). c.args.cell < many_cells p.world) (sym c.self.view_is) c.requires.cell in
    let closed = subst (λ (p : BoardPosition). IsClosedTable p.world p.table) (sym c.self.view_is) c.requires.closed in
    let opened = subst (λ (p : BoardPosition). value_in p.table.entries c.args.cell ≡ None) (sym c.self.view_is) c.requires.open in
    let least = subst (λ (n : ℕ). IsLeast a.trail c.args.cell c.args.from c.args.most n c.least.result) c.bound.ensures.bound c.least.ensures in
    subst (λ (p : BoardPosition). IsNextValue p.world (decided_in p.world p.table.entries) (cell_of p.world c.args.cell) c.args.from c.args.most c.least.result) c.self.view_is
    (is_next a.setup a.trail c.self.invariant.board c.self.invariant.searchable closed c.args.cell c.args.from c.args.most c.least.result within opened least)

pub returns-clause-left : goal.returns-clause-left
returns-clause-left c =
    λ value is.
    let a = c.self.inside in
    let within = subst (λ (p : BoardPosition). c.args.cell < many_cells p.world) (sym c.self.view_is) c.requires.cell in
    let closed = subst (λ (p : BoardPosition). IsClosedTable p.world p.table) (sym c.self.view_is) c.requires.closed in
    let opened = subst (λ (p : BoardPosition). value_in p.table.entries c.args.cell ≡ None) (sym c.self.view_is) c.requires.open in
    let least = subst (λ (n : ℕ). IsLeast a.trail c.args.cell c.args.from c.args.most n c.least.result) c.bound.ensures.bound c.least.ensures in
    subst (λ (p : BoardPosition). IsAmong value (left_in p.world p.table (cell_of p.world c.args.cell))) c.self.view_is
    (is_left a.setup a.trail c.self.invariant.board c.self.invariant.searchable closed c.args.cell c.args.from c.args.most value within opened
    (subst (IsLeast a.trail c.args.cell c.args.from c.args.most (bound_of a.setup.size (cell_of a.setup c.args.cell).kind)) is least))
