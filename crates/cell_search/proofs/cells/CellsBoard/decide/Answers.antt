use Rattle.std.proofs.Common.{◌≡◌, ◌<◌, true, None, List, length, refl, sym, ap, ◌∙◌, subst, ℕ, arith}
use Rattle.cell_choice.specs.Numbers.{uses_by}
use Rattle.cell_choice.specs.declared.shape.CellShape.{CellShape}
use Rattle.mace_cells.specs.Numbers.{above_used}
use Rattle.mace_cells.specs.Stacked.{Stacked}
use Rattle.mace_cells.specs.Trails.{Partial, value_in}
use Rattle.mace_cells.specs.World.{cell_of, many_cells}
use Rattle.cell_search.specs.Positions.{BoardPosition}
use Rattle.plain_search.specs.Lefts.{IsAmong}
use Rattle.plain_search.specs.Meeting.{WereLeft}
use Rattle.cell_search.specs.Losses.{IsBoard, decided_in}
use Rattle.cell_search.specs.Phases.{IsClosedTable, IsWaiting, WasClosed}
use Rattle.cell_search.specs.Viewing.{left_in}
use Rattle.cell_search.proofs.Phasing.{waits_behind, was_decided}
use Rattle.cell_search.proofs.Standing.{were_decided}
use Rattle.cell_search.proofs.Boarding.{decided, entry}
use Rattle.cell_search.proofs.Preferring.{many_shapes}
use Rattle.cell_search.proofs.Using.{uses_many, uses_more, shape_read}
use Rattle.cell_search.proofs.cells.CellsBoard.decide.Goals as goal

pub invariant_of-self : goal.invariant_of-self
invariant_of-self c =
    let a = c.self.inside in
    let w = a.setup in
    let t = a.trail in
    let e = entry c.args.cell c.args.value true (length t.crossings) in
    let within = subst (λ (p : BoardPosition). c.args.cell < many_cells p.world) (sym c.self.view_is) c.requires.cell in
    let opened = subst (λ (p : BoardPosition). value_in p.table.entries c.args.cell ≡ None) (sym c.self.view_is) c.requires.open in
    let closed = subst (λ (p : BoardPosition). IsClosedTable p.world p.table) (sym c.self.view_is) c.requires.closed in
    let left = subst (λ (p : BoardPosition). IsAmong c.args.value (left_in p.world p.table (cell_of p.world c.args.cell))) (sym c.self.view_is) c.requires.left in
    record {
      board = subst (λ (u : Partial). IsBoard w u) (sym c.assign.ensures) (decided w t c.self.invariant.board c.args.cell c.args.value within opened);
      searchable = c.self.invariant.searchable;
      ready = c.self.invariant.ready;
      env = c.self.invariant.env;
      scores = c.self.invariant.scores;
      shapes = c.self.invariant.shapes;
      uses =
          uses_more w t c.assign.new.self c.args.cell c.args.value (length t.crossings) c.index-shape.result.now.above c.in_use.result c.above_decision-used.result a.uses.list c.push.new.self.list c.self.invariant.uses
          (ap (λ (s : Stacked ℕ). s.list) c.push.ensures) (ap (λ (s : CellShape). s.above) (shape_read w a.shapes.items c.args.cell c.index-shape.result.now c.self.invariant.shapes within c.index-shape.ensures))
          (c.in_use.ensures ∙ ap (λ (p : BoardPosition). above_used p.world.fixed (decided_in p.world p.table.entries)) (sym c.self.view_is)) c.above_decision-used.ensures c.assign.ensures;
      stack = ap (λ (s : Stacked ℕ). s.room) c.push.ensures ∙ c.self.invariant.stack;
      small = c.self.invariant.small;
      was =
          subst (λ (u : Partial). WasClosed w u.stride u.entries u.crossings) (sym c.assign.ensures)
          (was_decided w t e refl refl closed c.self.invariant.was);
      were =
          subst (λ (u : Partial). WereLeft w (decided_in w u.entries)) (sym c.assign.ensures)
          (were_decided w t c.self.invariant.board c.self.invariant.searchable closed c.args.cell c.args.value within left c.self.invariant.were);
      phase =
          subst (λ (n : ℕ). IsWaiting w c.assign.new.self true n) (sym c.len-self-inside.ensures.len)
          (subst (λ (u : Partial). IsWaiting w u true (length t.entries)) (sym c.assign.ensures)
          (waits_behind w t e c.self.invariant.searchable closed refl within opened left));
    }

pub index-shape-requires : goal.index-shape-requires
index-shape-requires c =
    let a = c.self.inside in
    let within = subst (λ (p : BoardPosition). c.args.cell < many_cells p.world) (sym c.self.view_is) c.requires.cell in
    omega (arith, within, many_shapes a.setup a.shapes.items c.self.invariant.shapes)

pub push-requires : goal.push-requires
push-requires c =
    let a = c.self.inside in
    let room = subst (λ (p : BoardPosition). length (decided_in p.world p.table.entries) < many_cells p.world) (sym c.self.view_is) c.requires.room in
    let same : length a.uses.list ≡ length (uses_by a.setup.fixed (decided_in a.setup a.trail.entries)) = ap (λ (us : List ℕ). length us) c.self.invariant.uses in
    omega (arith, room, same, uses_many a.setup.fixed (decided_in a.setup a.trail.entries), c.self.invariant.stack)
