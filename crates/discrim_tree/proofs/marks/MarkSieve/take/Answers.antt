use Rattle.std.proofs.Common.{map}
use Rattle.discrim_tree.specs.Marks.{IsMarked, mark_step}
use Rattle.discrim_tree.proofs.marks.MarkSieve.take.Goals as goal

pub returns-clause-others : goal.returns-clause-others
unfolding IsMarked
returns-clause-others c = λ ms n apart h. c.take_marked.ensures.others 0 (map mark_step ms) n apart h

pub returns-clause-gone : goal.returns-clause-gone
unfolding IsMarked
returns-clause-gone c = c.take_marked.ensures.gone
