-- A term and an instance of it unify.
use Rattle.std.proofs.Common.{◌∙◌, ap, sym}
use Rattle.fol_core.specs.TermView.{tree_of}
use Rattle.discrim_tree.specs.Seeking.{passes}
use Rattle.discrim_tree.specs.declared.sought.Sought.{Sought}
use Rattle.discrim_tree.proofs.Meetings.{general_unifies, instance_unifies}
use Rattle.discrim_tree.proofs.sought.Sought.passes.Goals as goal

pub returns-then-below : goal.returns-then-below
returns-then-below c =
    let s = tree_of c.args.s.now in
    let t = tree_of c.args.t.now in
    instance_unifies s t c.in_ok-below-in-Unifiable.below c.in_ok-below-in-Unifiable.ensures c.if-below.true
    ∙ ap (λ (k : Sought). passes k t s) (sym c.in-Unifiable.is)

pub returns-then-above : goal.returns-then-above
returns-then-above c =
    let s = tree_of c.args.s.now in
    let t = tree_of c.args.t.now in
    general_unifies s t c.in_ok-above-in-Unifiable.above c.in_ok-above-in-Unifiable.ensures c.if-above.true
    ∙ ap (λ (k : Sought). passes k t s) (sym c.in-Unifiable.is)
