use Rattle.cell_choice.proofs.Shaping.{shapes_step}
use Rattle.cell_choice.proofs.shape.shapes.Goals as goal

pub loop-block-preserved : goal.loop-block-preserved
loop-block-preserved c =
    let step = shapes_step c.args.ground.now.size c.size-size.result c.cells-cells.result c.list-block-items.result.now c.loop-block.block-index _ c.loop-block.shapes.items c.add_shapes.new.shapes.items _ c.loop-block-test.true
    c.size-size.ensures c.in_ok-add_shapes.ensures c.loop-block.invariant.whole c.loop-block.invariant.room in
    record { whole = step.0; room = step.1 }
