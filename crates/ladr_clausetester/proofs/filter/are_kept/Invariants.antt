-- those so far are kept as told
use Rattle.std.proofs.Common.{take}
use Rattle.fol_problem.specs.Stated.{stated_of}
use Rattle.ladr_clausetester.specs.Filtering.{AreKeptAsTold}
use Rattle.ladr_clausetester.proofs.filter.are_kept.Given as goal

abbrev pub invariant-loop-place : goal.invariant-loop-place
invariant-loop-place l = AreKeptAsTold (stated_of l.problem) (take l.place l.its) l.kept.items
