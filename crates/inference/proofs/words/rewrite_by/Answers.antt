-- What the rule put in makes of the word.
use Rattle.std.proofs.Common.{◌∷◌, [], sym, subst}
use Rattle.derivation.specs.Later.{rewritten}
use Rattle.fol_core.specs.TermView.{tree_of}
use Rattle.inference.specs.Followed.{FollowsAs}
use Rattle.inference.proofs.WordSteps.{rewrites_by}
use Rattle.inference.proofs.words.rewrite_by.Goals as goal

pub returns : goal.returns
returns g c = λ n.
    let old = g.C.Underway.clause c.args.clause.now in
    let new = g.C.Underway.clause c.rewrite_at.new.self in
    subst (λ f. FollowsAs g.C.Underway.exceeds (rewritten n c.args.a c.args.path.now) old (c.args.rule.now ∷ []) new f) (sym c.put_word.ensures)
    (rewrites_by n c.args.a c.args.path.now old c.args.rule.now (tree_of c.args.left.now) (tree_of c.args.right.now) c.requires.place c.requires.rule g.C.Underway.exceeds new c.in_ok-put.put c.in_ok-put.ensures)
