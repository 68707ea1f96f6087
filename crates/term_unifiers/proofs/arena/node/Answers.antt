-- The arguments of each node are there.
use Rattle.std.proofs.Common.{length}
use Rattle.term_unifiers.proofs.Entering.{node_placed}
use Rattle.term_unifiers.proofs.arena.node.Goals as goal

pub returns-clause-placed : goal.returns-clause-placed
returns-clause-placed c =
    node_placed (length c.args.arena.now.arguments.items) c.args.arena.now.arguments.items c.args.arena.now.nodes.items c.args.n c.index.result.now c.requires.arena.placed c.requires.within c.index.ensures
