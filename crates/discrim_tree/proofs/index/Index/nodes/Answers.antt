use Rattle.std.proofs.Common.{◌∙◌, ap}
use Rattle.discrim_tree.specs.Beginnings.{count_beginnings}
use Rattle.discrim_tree.proofs.Counting.{counted_nodes}
use Rattle.discrim_tree.proofs.index.Index.nodes.Goals as goal

pub returns : goal.returns
returns c =
    let so = c.self.invariant in
    c.count.ensures ∙ counted_nodes c.self.inside.nodes.items c.self.inside.entries.items so.3 so.4 so.1 so.2 ∙ ap count_beginnings c.self.view_is
