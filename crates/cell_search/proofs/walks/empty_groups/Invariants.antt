-- those of the blocks so far
use Rattle.std.proofs.Common.{◌≡◌, ◌++◌, drop, map}
use Rattle.mace_ground.specs.Cells.{found}
use Rattle.mace_ground.specs.Spans.{block_of}
use Rattle.cell_search.specs.Ways.{firsts_of}
use Rattle.cell_search.specs.declared.walk.Group.{Group}
use Rattle.cell_search.proofs.walks.empty_groups.Given as goal

abbrev pub invariant-loop-block : goal.invariant-loop-block
invariant-loop-block l =
    map (λ (g : Group). g.first) l.groups.items ++ firsts_of (found l.setup.size l.setup.blocks) (map block_of (drop l.block-index l.block-items))
    ≡ firsts_of (found l.setup.size l.setup.blocks) (map block_of l.block-items)
