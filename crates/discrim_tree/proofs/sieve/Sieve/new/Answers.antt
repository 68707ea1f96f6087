use Rattle.std.proofs.Common.{sym, subst, ◌∙◌}
use Rattle.discrim_tree.specs.Nodes.{Reaches}
use Rattle.discrim_tree.specs.Paths.{step_of}
use Rattle.discrim_tree.specs.Sieves.{IsUnder}
use Rattle.discrim_tree.proofs.NodeSteps.{child_none, none_some}
use Rattle.discrim_tree.proofs.Paths.{path_begins}
use Rattle.discrim_tree.proofs.sieve.Sieve.new.Goals as goal

pub returns : goal.returns
unfolding IsUnder
returns c = λ t n h.
    let there = subst (λ p. Reaches c.new.result.items 0 p n) (path_begins t) h in
    none_some there.0 (sym (child_none c.new.result.items 0 (step_of t) (c.new.ensures.none 0)) ∙ there.1)
