use Rattle.std.proofs.Common.{ℕ, List, ap, subst, sym, ◌∙◌}
use Rattle.discrim_tree.specs.Contents.{Contents, branches_of, target, IsGapFor, StepsRise}
use Rattle.discrim_tree.specs.declared.edge.Edge.{Edge}
use Rattle.discrim_tree.proofs.Branches.{put_others, put_rise, put_there, target_at}
use Rattle.discrim_tree.proofs.NodeSteps.{none_some, on_either, on_ok}
use Rattle.discrim_tree.proofs.contents.Contents.put_branch.Goals as goal

pub unreachable-requires : goal.unreachable-requires
unreachable-requires c =
    let branches = c.as_slice.result.now in
    let listed = c.as_slice.ensures ∙ c.branches-branches.ensures in
    let edge = c.args.edge in
    let found = c.in-Ok.ensures.found in
    let same = listed ∙ ap (λ (v : Contents). v.branches) c.self.view_is in
    let rise = subst StepsRise (sym listed) c.self.invariant in
    none_some found.0
    (sym (ap (λ (bs : List (Edge × ℕ)). target bs edge) same ∙ c.requires) ∙ target_at branches rise edge c.in-Ok.field-0 found.0 found.1)

pub invariant_of-self : goal.invariant_of-self
invariant_of-self c =
    let old = branches_of c.self.inside.form in
    let gap = subst (λ (bs : List (Edge × ℕ)). IsGapFor bs c.args.edge c.in-Err.at) (c.as_slice.ensures ∙ c.branches-branches.ensures) c.in-Err.ensures.absent in
    on_either c.insert.result
    (λ more. subst StepsRise (sym more) (put_rise old c.args.edge c.args.node c.in-Err.at c.self.invariant gap))
    (λ same. subst StepsRise (sym same) c.self.invariant)
    c.insert.ensures.branches c.insert.ensures.err

pub returns-clause-there : goal.returns-clause-there
returns-clause-there c =
    let old = branches_of c.self.inside.form in
    let edge = c.args.edge in
    let none = ap (λ (v : Contents). target v.branches edge) c.self.view_is ∙ c.requires in
    on_ok c.insert.result
    (λ more. ap (λ (bs : List (Edge × ℕ)). target bs edge) more ∙ put_there old edge c.args.node c.in-Err.at none)
    c.insert.ensures.branches

pub returns-clause-others : goal.returns-clause-others
returns-clause-others c =
    let old = branches_of c.self.inside.form in
    let edge = c.args.edge in
    let none = ap (λ (v : Contents). target v.branches edge) c.self.view_is ∙ c.requires in
    on_ok c.insert.result
    (λ more e apart.
    ap (λ (bs : List (Edge × ℕ)). target bs e) more ∙ put_others old edge c.args.node c.in-Err.at none e apart
    ∙ ap (λ (v : Contents). target v.branches e) c.self.view_is)
    c.insert.ensures.branches
