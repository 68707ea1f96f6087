use Rattle.std.proofs.Common.{List, subst, ◌∙◌}
use Rattle.std.specs.Prelude.{OnOk}
use Rattle.discrim_tree.specs.Nodes.{Reaches}
use Rattle.discrim_tree.specs.Paths.{path_of}
use Rattle.discrim_tree.specs.Sieves.{IsUnder}
use Rattle.discrim_tree.specs.declared.edge.Edge.{Edge}
use Rattle.discrim_tree.proofs.sieve.Sieve.put.Goals as goal

pub returns-clause-others : goal.returns-clause-others
unfolding IsUnder
returns-clause-others c = λ t n h. c.put.ensures.kept 0 (path_of t) n h

pub returns-clause-put : goal.returns-clause-put
unfolding IsUnder
returns-clause-put c =
    subst (λ (path : List Edge). OnOk c.put.result (Reaches c.put.new.self.items 0 path c.args.number)) (c.deref.ensures.value ∙ c.in_ok-path.ensures) c.put.ensures.reached
