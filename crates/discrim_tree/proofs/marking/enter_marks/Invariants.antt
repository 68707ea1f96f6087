-- The branches of the first marks came.
use Rattle.std.proofs.Common.{take}
use Rattle.discrim_tree.specs.Marking.{EntersWithin}
use Rattle.discrim_tree.specs.Marks.{AreAmong}
use Rattle.discrim_tree.proofs.marking.enter_marks.Given as goal

abbrev pub invariant-loop-mark : goal.invariant-loop-mark
invariant-loop-mark l = record {
  kept : AreAmong l.fn.waiting.items l.waiting.items;
  enters : EntersWithin l.contents.branches (take l.mark-index l.marks) l.waiting.items;
}
