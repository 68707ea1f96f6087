-- How far the marking is.
use Rattle.std.proofs.Common.{length}
use Rattle.clause_store.proofs.Marking.{AreOnTheWay, left_to_mark}
use Rattle.clause_store.proofs.ancestors.marked.Given as goal
use Rattle.clause_store.specs.Marks.{stored_parents}

abbrev pub decreases-loop-m : goal.decreases-loop-m
decreases-loop-m l = left_to_mark (length l.lines) (stored_parents l.lines) l.marks.items l.waiting.items

abbrev pub invariant-loop-m : goal.invariant-loop-m
invariant-loop-m l = AreOnTheWay (length l.lines) (stored_parents l.lines) l.n l.marks.items l.waiting.items
