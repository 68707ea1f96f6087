use Rattle.std.proofs.Common.{None, Some}
use Rattle.fol_core.specs.TermView.{tree_of}
use Rattle.discrim_tree.specs.Paths.{path_of}
use Rattle.discrim_tree.proofs.Trees.{ends_whole, nothing_lost}
use Rattle.discrim_tree.proofs.nodes.Nodes.take_term.Goals as goal

pub returns-in-None-clause-gone : goal.returns-in-None-clause-gone
returns-in-None-clause-gone c =
    let old = c.args.self.now.items in
    ends_whole old (path_of (tree_of c.args.t.now)) None c.in-None.ensures old c.args.number (nothing_lost old)

pub returns-in-Some-clause-gone : goal.returns-in-Some-clause-gone
returns-in-Some-clause-gone c =
    let path = path_of (tree_of c.args.t.now) in
    c.take_at.ensures.gone path (ends_whole c.args.self.now.items path (Some c.in-Some.end) c.in-Some.ensures)
