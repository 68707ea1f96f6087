use Rattle.std.proofs.Common.{◌≡◌, ◌∙◌, sym, get_or}
use Rattle.std.specs.declared.cmp.Ordering.TheVariants.{Less}
use Rattle.discrim_tree.specs.Contents.{edge_cmp}
use Rattle.discrim_tree.specs.declared.edge.Edge.TheVariants.{Any}
use Rattle.discrim_tree.proofs.Branches.{none_behind}
use Rattle.discrim_tree.proofs.contents.target_among.Goals as goal

pub returns-in-Less : goal.returns-in-Less
returns-in-Less c =
    let less : edge_cmp c.args.edge (get_or c.args.branches.now c.loop-step.step-index (Any, 0)).0 ≡ Less = cc (c.cmp.ensures, c.in-Less.is) in
    sym (none_behind c.args.branches.now c.args.edge c.loop-step.step-index (Any, 0) c.requires c.loop-step-test.true less) ∙ c.loop-step.invariant
