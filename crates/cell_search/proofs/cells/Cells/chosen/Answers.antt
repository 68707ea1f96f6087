use Rattle.std.proofs.Common.{◌≡◌, ℕ, ◌<◌, None, Some, Option, IfNone, length, sym, ◌∙◌, subst}
use Rattle.cell_driver.specs.Boards.{IsAsSaid, StandsAs}
use Rattle.cell_driver.specs.declared.board.Status.TheVariants.{Choose, Settled}
use Rattle.mace_cells.specs.Numbers.{above_used}
use Rattle.mace_cells.specs.Trails.{value_in}
use Rattle.cell_search.specs.Choosing.{IsPickedBehind, score_of}
use Rattle.cell_search.specs.Finites.{AreLeafTables, AreTablesFor, finite_of, meaning_by_cells}
use Rattle.cell_search.specs.Losses.{decided_in}
use Rattle.cell_search.specs.Phases.{IsClosedTable}
use Rattle.cell_search.specs.Positions.{BoardPosition}
use Rattle.cell_search.proofs.Leafing.{leaf_tables}
use Rattle.cell_search.proofs.Preferring.{picked_open, picked_within}
use Rattle.cell_search.proofs.Standing.{full_settled, stands_chosen, stands_settled, told_chosen, told_settled}
use Rattle.cell_search.proofs.cells.Cells.chosen.Goals as goal

pub returns-in-Some-clause-told : goal.returns-in-Some-clause-told
returns-in-Some-clause-told c =
    let a = c.self.inside in
    let k = c.in-Some.cell in
    let board = c.self.invariant.board in
    let closed = subst (λ (p : BoardPosition). IsClosedTable p.world p.table) (sym c.self.view_is) c.requires.closed in
    let picked : IsPickedBehind a.setup a.trail (decided_in a.setup a.trail.entries) (Some k) =
    subst (λ (p : BoardPosition). IsPickedBehind p.world p.table (decided_in p.world p.table.entries) (Some k)) (sym c.self.view_is)
    (subst (IsPickedBehind c.args.self.now.world c.args.self.now.table (decided_in c.args.self.now.world c.args.self.now.table.entries)) c.in-Some.is c.requires.picked) in
    let few = picked_within a.setup a.trail board (score_of a.setup a.trail) (above_used a.setup.fixed (decided_in a.setup a.trail.entries)) k picked in
    let blank = picked_open a.setup a.trail board (score_of a.setup a.trail) (above_used a.setup.fixed (decided_in a.setup a.trail.entries)) k picked in
    let room : length a.trail.entries < a.trail.many = subst (λ (o : Option ℕ). IfNone o (length a.trail.entries < a.trail.many)) (c.value-value.ensures.value ∙ blank) c.value-value.ensures.few in
    subst (λ (p : BoardPosition). IsAsSaid p.world (decided_in p.world p.table.entries) (meaning_by_cells p.world p.table.entries) (Choose k)) c.self.view_is
    (told_chosen a.setup a.trail board c.self.invariant.searchable closed k few blank room)

pub returns-in-Some-clause-stands : goal.returns-in-Some-clause-stands
returns-in-Some-clause-stands c =
    let a = c.self.inside in
    let k = c.in-Some.cell in
    let board = c.self.invariant.board in
    let closed = subst (λ (p : BoardPosition). IsClosedTable p.world p.table) (sym c.self.view_is) c.requires.closed in
    let picked : IsPickedBehind a.setup a.trail (decided_in a.setup a.trail.entries) (Some k) =
    subst (λ (p : BoardPosition). IsPickedBehind p.world p.table (decided_in p.world p.table.entries) (Some k)) (sym c.self.view_is)
    (subst (IsPickedBehind c.args.self.now.world c.args.self.now.table (decided_in c.args.self.now.world c.args.self.now.table.entries)) c.in-Some.is c.requires.picked) in
    subst (λ (p : BoardPosition). StandsAs p.world (decided_in p.world p.table.entries) (Choose k)) c.self.view_is
    (stands_chosen a.setup a.trail board c.self.invariant.searchable closed k picked)

pub returns-in-Some-clause-open : goal.returns-in-Some-clause-open
returns-in-Some-clause-open c = λ j is.
    let a = c.self.inside in
    let k = c.in-Some.cell in
    let same : c.in-Some.cell ≡ j = cc in
    let board = c.self.invariant.board in
    let picked : IsPickedBehind a.setup a.trail (decided_in a.setup a.trail.entries) (Some k) =
    subst (λ (p : BoardPosition). IsPickedBehind p.world p.table (decided_in p.world p.table.entries) (Some k)) (sym c.self.view_is)
    (subst (IsPickedBehind c.args.self.now.world c.args.self.now.table (decided_in c.args.self.now.world c.args.self.now.table.entries)) c.in-Some.is c.requires.picked) in
    let blank = picked_open a.setup a.trail board (score_of a.setup a.trail) (above_used a.setup.fixed (decided_in a.setup a.trail.entries)) k picked in
    subst (λ (p : BoardPosition). value_in p.table.entries j ≡ None) c.self.view_is (subst (λ (i : ℕ). value_in a.trail.entries i ≡ None) same blank)

pub returns-in-None-clause-told : goal.returns-in-None-clause-told
returns-in-None-clause-told c =
    let a = c.self.inside in
    let none : IsPickedBehind a.setup a.trail (decided_in a.setup a.trail.entries) None =
    subst (λ (p : BoardPosition). IsPickedBehind p.world p.table (decided_in p.world p.table.entries) None) (sym c.self.view_is)
    (subst (IsPickedBehind c.args.self.now.world c.args.self.now.table (decided_in c.args.self.now.world c.args.self.now.table.entries)) c.in-None.is c.requires.picked) in
    let closed = subst (λ (p : BoardPosition). IsClosedTable p.world p.table) (sym c.self.view_is) c.requires.closed in
    subst (λ (p : BoardPosition). IsAsSaid p.world (decided_in p.world p.table.entries) (meaning_by_cells p.world p.table.entries) Settled) c.self.view_is
    (told_settled a.setup a.trail c.self.invariant.board c.self.invariant.searchable closed c.self.invariant.were none)

pub returns-in-None-clause-stands : goal.returns-in-None-clause-stands
returns-in-None-clause-stands c =
    let a = c.self.inside in
    let none : IsPickedBehind a.setup a.trail (decided_in a.setup a.trail.entries) None =
    subst (λ (p : BoardPosition). IsPickedBehind p.world p.table (decided_in p.world p.table.entries) None) (sym c.self.view_is)
    (subst (IsPickedBehind c.args.self.now.world c.args.self.now.table (decided_in c.args.self.now.world c.args.self.now.table.entries)) c.in-None.is c.requires.picked) in
    let closed = subst (λ (p : BoardPosition). IsClosedTable p.world p.table) (sym c.self.view_is) c.requires.closed in
    subst (λ (p : BoardPosition). StandsAs p.world (decided_in p.world p.table.entries) Settled) c.self.view_is
    (stands_settled a.setup a.trail c.self.invariant.board c.self.invariant.searchable closed none)

pub returns-in-None-clause-full : goal.returns-in-None-clause-full
returns-in-None-clause-full c = λ _.
    let a = c.self.inside in
    let none : IsPickedBehind a.setup a.trail (decided_in a.setup a.trail.entries) None =
    subst (λ (p : BoardPosition). IsPickedBehind p.world p.table (decided_in p.world p.table.entries) None) (sym c.self.view_is)
    (subst (IsPickedBehind c.args.self.now.world c.args.self.now.table (decided_in c.args.self.now.world c.args.self.now.table.entries)) c.in-None.is c.requires.picked) in
    let closed = subst (λ (p : BoardPosition). IsClosedTable p.world p.table) (sym c.self.view_is) c.requires.closed in
    subst (λ (p : BoardPosition). AreTablesFor p.world (finite_of p.world p.table.entries)) c.self.view_is
    (full_settled a.setup a.trail c.self.invariant.board c.self.invariant.searchable closed c.self.invariant.were none)

pub returns-in-Some-clause-leaf : goal.returns-in-Some-clause-leaf
returns-in-Some-clause-leaf c =
    let a = c.self.inside in
    let closed = subst (λ (p : BoardPosition). IsClosedTable p.world p.table) (sym c.self.view_is) c.requires.closed in
    subst (λ (p : BoardPosition). AreLeafTables p.world (decided_in p.world p.table.entries) (finite_of p.world p.table.entries)) c.self.view_is
    (leaf_tables a.setup a.trail c.self.invariant.searchable closed)

pub returns-in-None-clause-leaf : goal.returns-in-None-clause-leaf
returns-in-None-clause-leaf c =
    let a = c.self.inside in
    let closed = subst (λ (p : BoardPosition). IsClosedTable p.world p.table) (sym c.self.view_is) c.requires.closed in
    subst (λ (p : BoardPosition). AreLeafTables p.world (decided_in p.world p.table.entries) (finite_of p.world p.table.entries)) c.self.view_is
    (leaf_tables a.setup a.trail c.self.invariant.searchable closed)
