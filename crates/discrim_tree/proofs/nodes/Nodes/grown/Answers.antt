use Rattle.std.proofs.Common.{◌≡◌, ℕ, None, inl, inr, subst, sym, ◌∙◌}
use Rattle.std.proofs.lemmas.Bool.{cases_eq}
use Rattle.slab.specs.Slab.{get, ContainsKey}
use Rattle.discrim_tree.specs.Nodes.{Store, child}
use Rattle.discrim_tree.specs.Trees.{IsFresh}
use Rattle.discrim_tree.specs.declared.edge.Edge.{Edge}
use Rattle.discrim_tree.proofs.NodeSteps.{child_same, there_for, vacant_link}
use Rattle.discrim_tree.proofs.nodes.Nodes.grown.Goals as goal

-- where an empty node came, a step leads from another as before
fresh_child : (above k at : ℕ) (e : Edge) (old new : Store) → IsFresh above k old new → ContainsKey old at → child old at e ≡ None → child new at e ≡ None
fresh_child above k at e old new fresh there none = elim (cases_eq at k) [
  | inl s ↦
      let link = there_for old at there in
      absurd (vacant_link old at link.0 (subst (λ (j : ℕ). get old j ≡ None) (sym s) fresh.vacant) link.1)
  | inr s ↦ child_same old new at e (fresh.updates.others at s) ∙ none
]

pub attach-requires : goal.attach-requires
attach-requires c = fresh_child c.args.at c.in_ok-k.k c.args.at c.args.edge c.args.self.now.items c.fresh.new.self.items c.in_ok-k.ensures.fresh c.requires.there c.requires.none
