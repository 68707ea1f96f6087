use Rattle.std.proofs.Common.{◌≡◌, List, ◌∷◌, [], ◌++◌, map, ap, ◌∙◌, arith}
use Rattle.mace_ground.specs.Cells.{cells_in}
use Rattle.mace_ground.specs.Cells as cells
use Rattle.mace_ground.specs.Spans.{block_of, span_noted}
use Rattle.mace_ground.specs.declared.blocks.Block.{Block}
use Rattle.mace_ground.proofs.Placing.{placed_more, cells_more, blocks_more}
use Rattle.mace_ground.proofs.blocks.Blocks.push.Goals as goal

pub invariant_of-self-2 : goal.invariant_of-self-2
invariant_of-self-2 c =
    let blocks : List cells.Block = map block_of c.self.inside.list.items in
    let block : cells.Block = block_of c.args.block in
    let more : map block_of c.push.new.self.items ≡ blocks ++ block ∷ [] = ap (λ (bs : List Block). map block_of bs) c.in_ok-push.ensures.items ∙ blocks_more c.self.inside.list.items c.args.block in
    let fits = rw (← c.self.view_is) at c.requires in
    let many = rw c.from.ensures at c.power-many.ensures in
    let step = cells_more c.self.inside.size blocks block in
    rw more record {
      cells = omega (arith, step, c.self.invariant.cells, many, fits);
      spans = placed_more c.self.inside.size blocks (record { first = c.self.inside.cells; block = c.args.block }) c.self.inside.spans.items c.place.new.spans.items c.self.invariant.cells c.self.invariant.spans
          (λ s. c.place.ensures s ∙ ap (span_noted (record { first = c.self.inside.cells; block = c.args.block }) s) (c.in_ok-make_room.ensures.same s));
    }
