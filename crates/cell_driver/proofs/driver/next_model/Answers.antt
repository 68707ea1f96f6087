use Rattle.std.proofs.Common.{true}
use Rattle.mace_cells.proofs.Drives.{found_after}
use Rattle.cell_driver.proofs.Coming.{goes_behind}
use Rattle.cell_driver.proofs.driver.next_model.Goals as goal

pub returns-then-begin-clause-found : goal.returns-then-begin-clause-found
returns-then-begin-clause-found g c =
    found_after (g.B.Board.world c.args.board.now) (g.B.Board.world c.begin.new.board) c.args.live (g.B.Board.found c.descend.new.board) c.descend.result c.args.frames.now.list c.begin.new.frames.list c.descend.new.frames.list
    c.begin.ensures.world c.if-begin.ensures.leaves c.descend.ensures.found

pub returns-then-begin-clause-comes : goal.returns-then-begin-clause-comes
returns-then-begin-clause-comes g c =
    goes_behind (g.B.Board.world c.args.board.now) (g.B.Board.world c.begin.new.board) c.args.stop c.args.live true c.args.frames.now.list c.begin.new.frames.list c.descend.new.frames.list c.descend.result _ _
    c.begin.ensures.world c.if-begin.ensures.comes c.descend.ensures.comes
