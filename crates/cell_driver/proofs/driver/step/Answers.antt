use Rattle.std.proofs.Common.{true, false}
use Rattle.mace_cells.proofs.Drives.{both, gone_back_at}
use Rattle.cell_driver.proofs.Coming.{came_chosen}
use Rattle.cell_driver.proofs.driver.step.Goals as goal

pub returns-else-choose-clause-leaves : goal.returns-else-choose-clause-leaves
returns-else-choose-clause-leaves g c =
    both _ _ _ _ c.retreat.result c.args.frames.now.list c.choose.new.frames.list c.retreat.new.frames.list c.choose.ensures.world c.if-choose.ensures.leaves c.retreat.ensures.leaves

pub returns-else-choose-clause-rises : goal.returns-else-choose-clause-rises
returns-else-choose-clause-rises g c = gone_back_at _ (g.B.Board.world c.choose.new.board) c.retreat.result _ _ _ c.choose.ensures.world c.if-choose.ensures.rises c.retreat.ensures.rises

pub returns-else-choose-clause-comes : goal.returns-else-choose-clause-comes
returns-else-choose-clause-comes g c =
    came_chosen (g.B.Board.world c.args.board.now) (g.B.Board.world c.choose.new.board) true false c.retreat.result c.args.frames.now.list c.choose.new.frames.list c.retreat.new.frames.list c.choose.ensures.world c.if-choose.ensures.comes c.retreat.ensures.comes
