use Rattle.std.proofs.Common.{ℕ, Some, ap, sym, ◌∙◌}
use Rattle.std.proofs.lemmas.Option.{get_or_from_slice_get}
use Rattle.discrim_tree.specs.declared.edge.Edge.{Edge}
use Rattle.discrim_tree.specs.declared.edge.Edge.TheVariants.{Any}
use Rattle.discrim_tree.proofs.Branches.{target_at, target_in_gap}
use Rattle.discrim_tree.proofs.contents.target_in.Goals as goal

pub returns-in-Ok : goal.returns-in-Ok
returns-in-Ok c =
    let branches = c.args.branches.now in
    let edge = c.args.edge in
    let at = c.in-Ok.at in
    let found = c.in-Ok.ensures.found in
    ap (λ (b : Edge × ℕ). Some b.1) (get_or_from_slice_get branches at (edge, found.0) (Any, 0) found.1)
    ∙ sym (target_at branches c.requires edge at found.0 found.1)

pub returns-in-Err : goal.returns-in-Err
returns-in-Err c = sym (target_in_gap c.args.branches.now c.requires c.args.edge c.in-Err.field-0 c.in-Err.ensures.absent)
