-- the interpretations so far are told
use Rattle.std.proofs.Common.{take}
use Rattle.fol_problem.specs.Stated.{stated_of}
use Rattle.ladr_clausetester.proofs.Told.{AreToldSoFar}
use Rattle.ladr_clausetester.proofs.report.blocks.Given as goal

abbrev pub invariant-loop-place : goal.invariant-loop-place
invariant-loop-place l = AreToldSoFar (stated_of l.problem) (take l.place l.its) l.out.items l.told.items
