use Rattle.std.proofs.Common.{◌∙◌, [], ◌∷◌, ◌++◌, ap, List}
use Rattle.discrim_tree.specs.Marks.{IsMarked}
use Rattle.discrim_tree.specs.declared.marking.Meeting.{Meeting}
use Rattle.discrim_tree.proofs.Marked.{there_pushed}
use Rattle.discrim_tree.proofs.marks.MarkSieve.over.Goals as goal

pub returns-clause-found : goal.returns-clause-found
unfolding IsMarked
returns-clause-found c = λ rise ms n marked rises among.
    let root : Meeting = record { node = 0; met = 0 } in
    c.put_in_order.ensures.kept n (c.in_ok-over.ensures c.if-not-branch.false rise n (root, there_pushed [] c.push.new.self.items root (c.in_ok-push.ensures.items ∙ ap (λ (xs : List Meeting). xs ++ root ∷ []) c.in_ok-waiting.ensures.items), (ms, rises, among, marked)))
