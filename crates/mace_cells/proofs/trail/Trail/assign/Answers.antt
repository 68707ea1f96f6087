use Rattle.std.proofs.Common.{◌≡◌, ◌<◌, None, Some, List, length, set, refl, sym, ap, ◌∙◌, subst, arith}
use Rattle.std.proofs.lemmas.List.{length-set}
use Rattle.cell_ranks.specs.Ranks.{Ranked}
use Rattle.mace_cells.proofs.Counting.{flagged_set}
use Rattle.mace_cells.specs.Made.{IsMade}
use Rattle.mace_cells.specs.Stacked.{Stacked}
use Rattle.mace_cells.specs.Trails.{Partial, value_in, cells_written, AreFlagged, AreScored}
use Rattle.mace_cells.specs.declared.trail.TrailEntry.{TrailEntry}
use Rattle.mace_cells.proofs.Making.{value_read, room_left, made_more, blank_value, no_blank_values, many_written}
use Rattle.mace_cells.proofs.trail.Trail.assign.Goals as goal

pub push-requires : goal.push-requires
push-requires c =
    let xs = c.self.inside.values.items in
    let within = subst (λ (p : Partial). c.args.cell < p.many) (sym c.self.view_is) c.requires.cell in
    let empty = value_read _ c.self.inside.entries.list xs c.args.cell c.self.invariant.values ∙ ap (λ (p : Partial). value_in p.entries c.args.cell) c.self.view_is ∙ c.requires.blank in
    let left = room_left None blank_value (length xs) (cells_written c.self.inside.entries.list) xs c.args.cell refl (no_blank_values c.self.inside.entries.list) c.self.invariant.values within empty in
    let same : length (cells_written c.self.inside.entries.list) ≡ length c.self.inside.entries.list = many_written c.self.inside.entries.list in
    omega (arith, left, same, c.self.invariant.room)

pub invariant_of-self : goal.invariant_of-self
invariant_of-self c =
    let xs = c.self.inside.values.items in
    let within = subst (λ (p : Partial). c.args.cell < p.many) (sym c.self.view_is) c.requires.cell in
    let empty = value_read _ c.self.inside.entries.list xs c.args.cell c.self.invariant.values ∙ ap (λ (p : Partial). value_in p.entries c.args.cell) c.self.view_is ∙ c.requires.blank in
    let same : length (set xs c.args.cell (Some c.args.value)) ≡ length xs = length-set xs c.args.cell (Some c.args.value) in
    let list = ap (λ (s : Stacked TrailEntry). s.list) c.push.ensures in
    let room = ap (λ (s : Stacked TrailEntry). s.room) c.push.ensures in
    let made = made_more None (length xs) (cells_written c.self.inside.entries.list) xs c.args.cell (Some c.args.value) c.self.invariant.values within empty in
    rw same record {
      flags = c.self.invariant.flags;
      room = room ∙ c.self.invariant.room;
      more = c.self.invariant.more;
      values = subst (λ (es : List TrailEntry). IsMade None (length xs) (cells_written es) (set xs c.args.cell (Some c.args.value))) (sym list) made;
      crossed = c.self.invariant.crossed;
      small = c.self.invariant.small;
      ranked = ap (λ (r : Ranked). length r.indices) c.close.ensures ∙ c.self.invariant.ranked;
      free =
          subst (λ (r : Ranked). AreFlagged (set xs c.args.cell (Some c.args.value)) r.free) (sym c.close.ensures)
          (flagged_set xs c.self.inside.ranks.free c.args.cell (Some c.args.value) within c.self.invariant.free);
      scored = subst (λ (r : Ranked). AreScored c.self.inside.counts c.self.inside.stride c.self.inside.crossings.list (length xs) r.scores) (sym c.close.ensures) c.self.invariant.scored;
    }
