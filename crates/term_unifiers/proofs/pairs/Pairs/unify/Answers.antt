-- What is found of the nodes' trees is found of the pairs.
use Rattle.std.proofs.Common.{map}
use Rattle.fol_core.specs.Tree.{Tree}
use Rattle.term_unifiers.proofs.Unified.{solved_as}
use Rattle.term_unifiers.proofs.pairs.Pairs.unify.Goals as goal

pub returns : goal.returns
returns c =
    solved_as c.unifier_of.result _ _ (map (λ (p : Tree × Tree). p.0) c.args.self.pairs) (map (λ (p : Tree × Tree). p.1) c.args.self.pairs) c.in_ok-nodes.ensures.left c.in_ok-nodes.ensures.right c.unifier_of.ensures
