-- the decisions are being followed, and the clock was early
use Rattle.std.proofs.Common.{◌≡◌, ◌-◌, ◌^◌, true}
use Rattle.mace_cells.specs.Leaves.{LeavesOpen, choices_of}
use Rattle.mace_cells.specs.Standing.{IsStanding, place}
use Rattle.mace_cells.specs.World.{many_cells}
use Rattle.cell_driver.proofs.Coming.{HasCome}
use Rattle.ladr_io.specs.Watch.{IsEarly}
use Rattle.cell_driver.proofs.driver.descend.Given as goal

abbrev pub invariant-loop-board : goal.invariant-loop-board
invariant-loop-board g l = record {
  world : g.B.Board.world l.board ≡ g.B.Board.world l.fn.board;
  standing : IsStanding (g.B.Board.world l.board) (g.B.Board.decided l.board) l.frames;
  leaves : LeavesOpen (g.B.Board.world l.fn.board) true (choices_of (g.B.Board.world l.fn.board) l.fn.frames.list) true (choices_of (g.B.Board.world l.fn.board) l.frames.list);
  early : IsEarly l.stop (g.C.Clock.times l.clock);
  came : HasCome (g.B.Board.world l.fn.board) l.stop true (choices_of (g.B.Board.world l.fn.board) l.fn.frames.list) true (choices_of (g.B.Board.world l.fn.board) l.frames.list) (g.C.Clock.times l.fn.clock) (g.C.Clock.times l.clock);
}

abbrev pub decreases-loop-board : goal.decreases-loop-board
decreases-loop-board g l = 257 ^ many_cells (g.B.Board.world l.fn.board) - place (many_cells (g.B.Board.world l.fn.board)) l.frames.list
