use Rattle.std.proofs.Common.{List, map, subst, ◌∙◌}
use Rattle.std.specs.Prelude.{OnOk}
use Rattle.discrim_tree.specs.Marks.{IsMarked, mark_step}
use Rattle.discrim_tree.specs.Nodes.{Reaches}
use Rattle.discrim_tree.specs.declared.edge.Edge.{Edge}
use Rattle.discrim_tree.proofs.marks.MarkSieve.put.Goals as goal

pub returns-clause-others : goal.returns-clause-others
unfolding IsMarked
returns-clause-others c = λ ms n h. c.put.ensures.kept 0 (map mark_step ms) n h

pub returns-clause-put : goal.returns-clause-put
unfolding IsMarked
returns-clause-put c =
    subst (λ (path : List Edge). OnOk c.put.result (Reaches c.put.new.self.items 0 path c.args.number)) (c.deref.ensures.value ∙ c.in_ok-path.ensures) c.put.ensures.reached
