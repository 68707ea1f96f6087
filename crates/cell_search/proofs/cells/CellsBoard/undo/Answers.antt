use Rattle.std.proofs.Common.{◌≡◌, ℕ, ◌<◌, List, None, length, sym, ap, ◌∙◌, subst, arith}
use Rattle.mace_cells.specs.Choices.{IsLatest}
use Rattle.cell_choice.specs.Numbers.{uses_by}
use Rattle.mace_cells.specs.Stacked.{Stacked, rest_of}
use Rattle.mace_cells.specs.Trails.{Partial, value_in}
use Rattle.mace_cells.specs.World.{cell_of, many_cells}
use Rattle.cell_search.specs.Positions.{BoardPosition}
use Rattle.plain_search.specs.Meeting.{WereLeft}
use Rattle.cell_search.specs.Losses.{decided_in, IsBoard}
use Rattle.cell_search.specs.Phases.{IsClosedTable, WasClosed}
use Rattle.cell_search.proofs.Phasing.{undone_closed, was_taken, were_rest}
use Rattle.cell_search.proofs.Boarding.{taken, reopened}
use Rattle.cell_search.proofs.Using.{uses_rest, uses_many}
use Rattle.cell_search.proofs.Tabling.{cells_differ}
use Rattle.cell_search.proofs.cells.CellsBoard.undo.Goals as goal

pub invariant_of-self : goal.invariant_of-self
invariant_of-self c =
    let a = c.self.inside in
    let some = subst (λ (p : BoardPosition). 0 < length (decided_in p.world p.table.entries)) (sym c.self.view_is) c.requires in
    record {
      board = subst (λ (t : Partial). IsBoard a.setup t) (sym c.undo.ensures) (taken a.setup a.trail c.self.invariant.board some).0;
      searchable = c.self.invariant.searchable;
      ready = c.self.invariant.ready;
      env = c.self.invariant.env;
      scores = c.self.invariant.scores;
      shapes = c.self.invariant.shapes;
      uses =
          ap (λ (s : Stacked ℕ). s.list) c.pop.ensures ∙ ap rest_of c.self.invariant.uses ∙ uses_rest a.setup.fixed (decided_in a.setup a.trail.entries)
          ∙ ap (uses_by a.setup.fixed) (sym (ap (λ (t : Partial). decided_in a.setup t.entries) c.undo.ensures ∙ (taken a.setup a.trail c.self.invariant.board some).1));
      stack = ap (λ (s : Stacked ℕ). s.room) c.pop.ensures ∙ c.self.invariant.stack;
      small = c.self.invariant.small;
      was = subst (λ (u : Partial). WasClosed a.setup u.stride u.entries u.crossings) (sym c.undo.ensures) (was_taken a.setup a.trail.stride a.trail.entries a.trail.crossings c.self.invariant.was some).1;
      were =
          subst (WereLeft a.setup) (sym (ap (λ (t : Partial). decided_in a.setup t.entries) c.undo.ensures ∙ (taken a.setup a.trail c.self.invariant.board some).1))
          (were_rest a.setup (decided_in a.setup a.trail.entries) c.self.invariant.were);
      phase = subst (IsClosedTable a.setup) (sym c.undo.ensures) (undone_closed a.setup a.trail c.self.invariant.was some);
    }

pub pop-requires : goal.pop-requires
pop-requires c =
    let a = c.self.inside in
    let some = subst (λ (p : BoardPosition). 0 < length (decided_in p.world p.table.entries)) (sym c.self.view_is) c.requires in
    let same : length a.uses.list ≡ length (uses_by a.setup.fixed (decided_in a.setup a.trail.entries)) = ap (λ (us : List ℕ). length us) c.self.invariant.uses in
    omega (arith, some, same, uses_many a.setup.fixed (decided_in a.setup a.trail.entries))

pub returns-clause-decided : goal.returns-clause-decided
returns-clause-decided c =
    let a = c.self.inside in
    let some = subst (λ (p : BoardPosition). 0 < length (decided_in p.world p.table.entries)) (sym c.self.view_is) c.requires in
    ap (λ (t : Partial). decided_in a.setup t.entries) c.undo.ensures ∙ (taken a.setup a.trail c.self.invariant.board some).1 ∙ ap (λ (p : BoardPosition). rest_of (decided_in p.world p.table.entries)) c.self.view_is

pub returns-clause-open : goal.returns-clause-open
returns-clause-open c = λ k within latest.
    let a = c.self.inside in
    let some = subst (λ (p : BoardPosition). 0 < length (decided_in p.world p.table.entries)) (sym c.self.view_is) c.requires in
    let here = subst (λ (p : BoardPosition). k < many_cells p.world) (sym c.self.view_is) within in
    let last = subst (λ (p : BoardPosition). IsLatest (decided_in p.world p.table.entries) (cell_of p.world k)) (sym c.self.view_is) latest in
    let again = reopened a.setup a.trail c.self.invariant.board (cells_differ a.setup c.self.invariant.searchable.once c.self.invariant.searchable.some) some k here last in
    subst (λ (t : Partial). value_in t.entries k ≡ None) (sym c.undo.ensures) again

pub returns-clause-closed : goal.returns-clause-closed
returns-clause-closed c =
    let a = c.self.inside in
    let some = subst (λ (p : BoardPosition). 0 < length (decided_in p.world p.table.entries)) (sym c.self.view_is) c.requires in
    subst (IsClosedTable a.setup) (sym c.undo.ensures) (undone_closed a.setup a.trail c.self.invariant.was some)
