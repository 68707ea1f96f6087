-- what was passed is left, and the place behind all that follows has not been passed
use Rattle.std.proofs.Common.{◌≡◌, ◌≤◌, false, length}
use Rattle.mace_cells.specs.Leaves.{LeavesOpen, choices_of}
use Rattle.mace_cells.specs.Standing.{IsStanding, beyond}
use Rattle.mace_cells.specs.World.{many_cells}
use Rattle.plain_search.specs.Coming.{to_come}
use Rattle.cell_driver.proofs.driver.retreat.Given as goal

abbrev pub invariant-loop-frame : goal.invariant-loop-frame
invariant-loop-frame g l = record {
  world : g.B.Board.world l.board ≡ g.B.Board.world l.fn.board;
  standing : IsStanding (g.B.Board.world l.board) (g.B.Board.decided l.board) l.frames;
  leaves : LeavesOpen (g.B.Board.world l.fn.board) false (choices_of (g.B.Board.world l.fn.board) l.fn.frames.list) false (choices_of (g.B.Board.world l.fn.board) l.frames.list);
  came : to_come (g.B.Board.world l.fn.board) false (choices_of (g.B.Board.world l.fn.board) l.fn.frames.list) ≡ to_come (g.B.Board.world l.fn.board) false (choices_of (g.B.Board.world l.fn.board) l.frames.list);
  behind : beyond (many_cells (g.B.Board.world l.fn.board)) l.fn.frames.list ≤ beyond (many_cells (g.B.Board.world l.fn.board)) l.frames.list;
}

abbrev pub decreases-loop-frame : goal.decreases-loop-frame
decreases-loop-frame g l = length l.frames.list
