use Rattle.std.proofs.Common.{ℕ, List, Some, ap, get_or, sym, subst, ◌∙◌}
use Rattle.std.proofs.lemmas.Option.{slice_get-get_or}
use Rattle.discrim_tree.specs.Contents.{Contents, target, StepsRise}
use Rattle.discrim_tree.specs.declared.edge.Edge.{Edge}
use Rattle.discrim_tree.specs.declared.edge.Edge.TheVariants.{Any}
use Rattle.discrim_tree.proofs.Branches.{target_at}
use Rattle.discrim_tree.proofs.contents.Contents.step_to.Goals as goal

pub returns-then-k-node-clause-step : goal.returns-then-k-node-clause-step
returns-then-k-node-clause-step c =
    let branches = c.as_slice-step-items.result.now in
    let listed = c.as_slice-step-items.ensures ∙ c.branches-branches.ensures in
    let i = c.loop-step.step-index in
    let b = get_or branches i (Any, 0) in
    let same = listed ∙ ap (λ (v : Contents). v.branches) c.self.view_is in
    let rise = subst StepsRise (sym listed) c.self.invariant in
    sym (ap (λ (bs : List (Edge × ℕ)). target bs b.0) same)
    ∙ target_at branches rise b.0 i b.1 (slice_get-get_or branches i (Any, 0) c.loop-step-test.true)
    ∙ ap Some c.if-k-node.true
