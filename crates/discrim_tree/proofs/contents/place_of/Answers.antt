use Rattle.std.proofs.Common.{ℕ, rules}
use Rattle.std.proofs.lemmas.List.Sorted.{answers_always}
use Rattle.discrim_tree.specs.declared.edge.Edge.{Edge}
use Rattle.discrim_tree.proofs.Branches.{searched}
use Rattle.discrim_tree.proofs.contents.place_of.Goals as goal

pub returns-clause-found : goal.returns-clause-found
returns-clause-found c =
    let facts = c.binary_search_by_key.ensures in
    (searched c.args.branches.now c.requires c.args.edge c.binary_search_by_key.result facts.bound
    (facts.position (λ (b : Edge × ℕ). b.0) (answers_always _ _ _ (λ f a r g called. search rules)))).0

pub returns-clause-absent : goal.returns-clause-absent
returns-clause-absent c =
    let facts = c.binary_search_by_key.ensures in
    (searched c.args.branches.now c.requires c.args.edge c.binary_search_by_key.result facts.bound
    (facts.position (λ (b : Edge × ℕ). b.0) (answers_always _ _ _ (λ f a r g called. search rules)))).1
