use Rattle.discrim_tree.proofs.Branches.{none_rise}
use Rattle.discrim_tree.proofs.contents.Contents.new.Goals as goal

pub invariant_of-result : goal.invariant_of-result
invariant_of-result c = none_rise
