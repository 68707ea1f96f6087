-- The one parent.
use Rattle.std.proofs.Common.{IfOk, List, sym, subst}
use Rattle.derivation.specs.Later.{rewritten}
use Rattle.fol_core.specs.Literals.{ClauseTree}
use Rattle.inference.specs.Followed.{FollowsAs}
use Rattle.inference.proofs.JudgeSteps.{one_parent}
use Rattle.inference.proofs.words.rewrite_of.Goals as goal

pub returns : goal.returns
returns g c = λ n.
    subst (λ (ps : List ClauseTree). IfOk c.rewrite.result (FollowsAs g.C.Underway.exceeds (rewritten n c.args.a c.args.path.now) (g.C.Underway.clause c.args.clause.now) ps (g.C.Underway.clause c.rewrite.new.clause)))
    (sym (one_parent c.args.parents.now c.index-parents-0.result c.if-parents-ne1.false c.index-parents-0.is)) (c.rewrite.ensures n)
