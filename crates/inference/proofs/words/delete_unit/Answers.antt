-- No instance denies the literal, or one does.
use Rattle.std.proofs.Common.{◌∙◌, sym}
use Rattle.fol_core.specs.TermView.{tree_of}
use Rattle.inference.proofs.WordSteps.{deletes, deletes_not}
use Rattle.inference.proofs.words.delete_unit.Goals as goal

pub returns-then-not-branch : goal.returns-then-not-branch
returns-then-not-branch g c = λ n.
    deletes_not g.C.Underway.exceeds c.args.a n (g.C.Underway.clause c.args.clause.now) c.args.unit.now (tree_of c.atom.result.now) (sym c.len.ensures ∙ c.if-len-ne1.false) (sym c.is_denied.ensures ∙ c.if-not-is_denied.false) c.atom.ensures
    (sym c.in_ok-is_instance_at.ensures ∙ c.if-not-branch.true)

pub returns : goal.returns
returns g c = λ n.
    deletes g.C.Underway.exceeds c.args.a n (g.C.Underway.clause c.args.clause.now) (g.C.Underway.clause c.take_out.new.self) c.args.unit.now (tree_of c.atom.result.now) (sym c.len.ensures ∙ c.if-len-ne1.false) (sym c.is_denied.ensures ∙ c.if-not-is_denied.false)
    c.atom.ensures (sym c.in_ok-is_instance_at.ensures ∙ c.if-not-branch.false) c.take_out.ensures
