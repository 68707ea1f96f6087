use Rattle.std.proofs.Common.{◌≡◌, ℕ, List, length, false, max, refl, sym, ap, ◌∙◌, subst, arith}
use Rattle.std.proofs.lemmas.List.{length-replicate, length-map}
use Rattle.cell_choice.proofs.Shaping.{shapes_many}
use Rattle.cell_choice.specs.Numbers.{uses_by}
use Rattle.cell_choice.specs.declared.shape.CellShape.{CellShape}
use Rattle.mace_cells.specs.Stacked.{Stacked}
use Rattle.mace_cells.specs.Trails.{Partial, counts_crossed}
use Rattle.mace_cells.specs.World.{many_cells}
use Rattle.mace_cells.specs.declared.way.Way.{Way}
use Rattle.cell_search.specs.Losses.{IsBoard, decided_in}
use Rattle.plain_search.specs.Meeting.{WereLeft}
use Rattle.cell_search.specs.Phases.{IsWaiting, WasClosed}
use Rattle.cell_search.specs.Scores.{is_ranked}
use Rattle.cell_search.specs.Positions.{position}
use Rattle.cell_search.proofs.Boards.{board_at_first, first_table, zeros_below}
use Rattle.cell_search.proofs.cells.Cells.new.Goals as goal

pub new-requires : goal.new-requires
new-requires c =
    let w = c.args.setup in
    let is : length c.in_ok-indices.indices.items ≡ length c.deref.result.now = ap (λ (xs : List ℕ). length xs) c.in_ok-indices.ensures ∙ length-map c.deref.result.now (λ s. s.above) in
    let shapes : length c.deref.result.now ≡ many_cells w = ap (λ (ss : List CellShape). length ss) (c.deref.ensures.value ∙ c.requires.shapes) ∙ shapes_many w.size w.blocks in
    omega (arith, is, shapes, c.cells-cells.ensures, c.cells-cells.type_inv)

pub invariant_of-result : goal.invariant_of-result
invariant_of-result c =
    let w = c.args.setup in
    let first = first_table w c.deref.result.now c.in_ok-indices.indices.items c.in_ok-trail.trail c.max.result c.counts_crossed-counts.result (c.deref.ensures.value ∙ c.requires.shapes) c.in_ok-indices.ensures (c.max.ensures ∙ ap (λ (n : ℕ). max n 2) c.size.ensures.size) (c.counts_crossed-counts.ensures ∙ ap (λ (v : Way). counts_crossed v.measure) c.way.ensures) c.in_ok-trail.ensures in
    record {
      board = subst (λ (t : Partial). IsBoard w t) (sym first) (board_at_first w c.requires.searchable.some);
      searchable = c.requires.searchable;
      ready = record {
        ways = record {
          cells = c.requires.searchable;
          few = omega (arith, c.cells-cells.ensures, c.cells-cells.type_inv);
          begin = c.requires.groups;
          walks = c.requires.walks;
          room = let many : length c.in_ok-env.env.items ≡ c.in_ok-room.room = ap (λ (xs : List ℕ). length xs) c.in_ok-env.ensures ∙ length-replicate c.in_ok-room.room 0 in rw many c.in_ok-room.ensures;
        };
        whole = c.requires.whole;
        each = c.requires.each;
      };
      env = rw c.in_ok-env.ensures (zeros_below w.size c.in_ok-room.room c.requires.searchable.some);
      scores = λ off. c.in_ok-scores.ensures (ap (λ (v : Way). is_ranked v.measure) c.way-2.ensures ∙ off) ∙ c.cells-cells.ensures;
      shapes = c.requires.shapes;
      uses = ap (λ (s : Stacked ℕ). s.list) c.in_ok-uses.ensures ∙ ap (λ (t : Partial). uses_by w.fixed (decided_in w t.entries)) (sym first);
      stack = ap (λ (s : Stacked ℕ). s.room) c.in_ok-uses.ensures ∙ c.cells-cells.ensures;
      small = c.requires.small;
      was = subst (λ (t : Partial). WasClosed w t.stride t.entries t.crossings) (sym first) tt;
      were = subst (λ (t : Partial). WereLeft w (decided_in w t.entries)) (sym first) tt;
      phase = subst (λ (t : Partial). IsWaiting w t false 0) (sym first) (refl, refl);
    }

pub returns : goal.returns
returns c =
    let w = c.args.setup in
    ap (position w)
    (first_table w c.deref.result.now c.in_ok-indices.indices.items c.in_ok-trail.trail c.max.result c.counts_crossed-counts.result (c.deref.ensures.value ∙ c.requires.shapes) c.in_ok-indices.ensures (c.max.ensures ∙ ap (λ (n : ℕ). max n 2) c.size.ensures.size) (c.counts_crossed-counts.ensures ∙ ap (λ (v : Way). counts_crossed v.measure) c.way.ensures) c.in_ok-trail.ensures)
