-- How far the marking is.
use Rattle.std.proofs.Common.{length}
use Rattle.clause_store.proofs.Marking.{AreOnTheWay, left_to_mark}
use Rattle.clause_store.specs.Marks.{parents_at}
use Rattle.prover_proofs.proofs.lines.SearchLines.marked.Given as goal
use Rattle.prover_proofs.specs.SearchLines.{lines_in}

abbrev pub decreases-loop-m : goal.decreases-loop-m
decreases-loop-m l = left_to_mark (length (lines_in l.self)) (parents_at (lines_in l.self)) l.marks.items l.waiting.items

abbrev pub invariant-loop-m : goal.invariant-loop-m
invariant-loop-m l = AreOnTheWay (length (lines_in l.self)) (parents_at (lines_in l.self)) l.n l.marks.items l.waiting.items
