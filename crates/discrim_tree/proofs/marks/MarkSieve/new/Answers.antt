use Rattle.std.proofs.Common.{map}
use Rattle.discrim_tree.specs.Marks.{IsMarked, mark_step}
use Rattle.discrim_tree.proofs.WalkSteps.{nowhere}
use Rattle.discrim_tree.proofs.marks.MarkSieve.new.Goals as goal

pub returns : goal.returns
unfolding IsMarked
returns c = λ ms n h. nowhere c.new.result.items 0 (map mark_step ms) n (c.new.ensures.none 0) h
