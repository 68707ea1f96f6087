use Rattle.std.proofs.Common.{◌∙◌, [], ◌∷◌, ◌++◌, ap, List, ℕ}
use Rattle.discrim_tree.specs.Marks.{IsMarked}
use Rattle.discrim_tree.proofs.Marked.{there_pushed}
use Rattle.discrim_tree.proofs.marks.MarkSieve.within.Goals as goal

pub returns-clause-found : goal.returns-clause-found
unfolding IsMarked
returns-clause-found c = λ ms n marked among.
    c.put_in_order.ensures.kept n (c.in_ok-within.ensures c.if-not-branch.false n (0, there_pushed [] c.push.new.self.items 0 (c.in_ok-push.ensures.items ∙ ap (λ (xs : List ℕ). xs ++ 0 ∷ []) c.in_ok-waiting.ensures.items), (ms, among, marked)))
