-- The steps of the first marks.
use Rattle.std.proofs.Common.{◌≡◌, map, take}
use Rattle.discrim_tree.specs.Marks.{mark_step}
use Rattle.discrim_tree.proofs.marking.path_of_marks.Given as goal

abbrev pub invariant-loop-mark : goal.invariant-loop-mark
invariant-loop-mark l = l.path.items ≡ map mark_step (take l.mark-index l.marks)
