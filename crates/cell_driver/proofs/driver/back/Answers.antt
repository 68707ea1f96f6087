use Rattle.std.proofs.Common.{true, false, refl}
use Rattle.mace_cells.proofs.Drives.{both, refuted_at, gone_back}
use Rattle.cell_driver.proofs.Coming.{came_on, was_refuted}
use Rattle.cell_driver.proofs.driver.back.Goals as goal

pub returns-clause-leaves : goal.returns-clause-leaves
returns-clause-leaves g c =
    let w = g.B.Board.world c.args.board.now in
    both w w _ _ c.retreat.result c.args.frames.now.list c.args.frames.now.list c.retreat.new.frames.list refl (refuted_at w _ c.args.frames.now.list c.requires.standing.decided c.requires.refuted) c.retreat.ensures.leaves

pub returns-clause-rises : goal.returns-clause-rises
returns-clause-rises g c = gone_back c.retreat.result _ _ _ _ c.retreat.ensures.rises

pub returns-clause-comes : goal.returns-clause-comes
returns-clause-comes g c =
    let w = g.B.Board.world c.args.board.now in
    came_on w w true false c.retreat.result c.args.frames.now.list c.args.frames.now.list c.retreat.new.frames.list refl (was_refuted w _ c.args.frames.now.list c.requires.standing.decided c.requires.stands) c.retreat.ensures.comes
