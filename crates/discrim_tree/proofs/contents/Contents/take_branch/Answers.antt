use Rattle.std.proofs.Common.{ℕ, List, ap, slice_get, subst, sym, ◌∙◌}
use Rattle.discrim_tree.specs.Contents.{Contents, branches_of, target, StepsRise}
use Rattle.discrim_tree.specs.declared.edge.Edge.{Edge}
use Rattle.discrim_tree.proofs.Branches.{cut_gone, cut_others, cut_rise, target_in_gap}
use Rattle.discrim_tree.proofs.contents.Contents.take_branch.Goals as goal

pub invariant_of-self : goal.invariant_of-self
invariant_of-self c = subst StepsRise (sym c.remove.ensures.branches) (cut_rise (branches_of c.self.inside.form) c.in-Ok.at c.self.invariant)

pub returns-in-Ok-clause-gone : goal.returns-in-Ok-clause-gone
returns-in-Ok-clause-gone c =
    let old = branches_of c.self.inside.form in
    let at = c.in-Ok.at in
    let found = c.in-Ok.ensures.found in
    let is = ap (λ (bs : List (Edge × ℕ)). slice_get bs at) (sym (c.as_slice.ensures ∙ c.branches-branches.ensures)) ∙ found.1 in
    ap (λ (bs : List (Edge × ℕ)). target bs c.args.edge) c.remove.ensures.branches ∙ cut_gone old c.args.edge found.0 at c.self.invariant is

pub returns-in-Ok-clause-others : goal.returns-in-Ok-clause-others
returns-in-Ok-clause-others c = λ e apart.
    let old = branches_of c.self.inside.form in
    let at = c.in-Ok.at in
    let found = c.in-Ok.ensures.found in
    let is = ap (λ (bs : List (Edge × ℕ)). slice_get bs at) (sym (c.as_slice.ensures ∙ c.branches-branches.ensures)) ∙ found.1 in
    ap (λ (bs : List (Edge × ℕ)). target bs e) c.remove.ensures.branches ∙ cut_others old c.args.edge found.0 at c.self.invariant is e apart
    ∙ ap (λ (v : Contents). target v.branches e) c.self.view_is

pub returns-in_default-clause-gone : goal.returns-in_default-clause-gone
returns-in_default-clause-gone c =
    let branches = c.as_slice.result.now in
    let listed = c.as_slice.ensures ∙ c.branches-branches.ensures in
    let same = listed ∙ ap (λ (v : Contents). v.branches) c.self.view_is in
    let rise = subst StepsRise (sym listed) c.self.invariant in
    sym (ap (λ (bs : List (Edge × ℕ)). target bs c.args.edge) same) ∙ target_in_gap branches rise c.args.edge c.in_default.field-0 c.in_default.ensures.absent
