-- Each word by its own.
use Rattle.std.proofs.Common.{IfOk, List, ℕ, sym, subst}
use Rattle.derivation.specs.Later.{rewritten}
use Rattle.derivation.specs.View.{later_of}
use Rattle.inference.specs.Followed.{FollowsAs}
use Rattle.inference.specs.Lent.{lent_clauses}
use Rattle.inference.proofs.words.follow.Goals as goal

pub returns-in-Flip : goal.returns-in-Flip
returns-in-Flip g c =
    subst (λ w. IfOk c.flip.result (FollowsAs g.C.Underway.exceeds (later_of w) (g.C.Underway.clause c.args.clause.now) (lent_clauses c.args.parents.now) (g.C.Underway.clause c.flip.new.clause))) (sym c.in-Flip.is) (c.flip.ensures (lent_clauses c.args.parents.now))

pub returns-in-Merge : goal.returns-in-Merge
returns-in-Merge g c =
    subst (λ w. FollowsAs g.C.Underway.exceeds (later_of w) (g.C.Underway.clause c.args.clause.now) (lent_clauses c.args.parents.now) (g.C.Underway.clause c.merge.new.clause) c.merge.result) (sym c.in-Merge.is) (c.merge.ensures.follows (lent_clauses c.args.parents.now))

pub returns-in-Xx : goal.returns-in-Xx
returns-in-Xx g c =
    subst (λ w. FollowsAs g.C.Underway.exceeds (later_of w) (g.C.Underway.clause c.args.clause.now) (lent_clauses c.args.parents.now) (g.C.Underway.clause c.drop_reflexive.new.clause) c.drop_reflexive.result) (sym c.in-Xx.is)
    (c.drop_reflexive.ensures.follows (lent_clauses c.args.parents.now))

pub returns-in-UnitDel : goal.returns-in-UnitDel
returns-in-UnitDel g c =
    subst (λ w. IfOk c.delete_unit_of.result (FollowsAs g.C.Underway.exceeds (later_of w) (g.C.Underway.clause c.args.clause.now) (lent_clauses c.args.parents.now) (g.C.Underway.clause c.delete_unit_of.new.clause))) (sym c.in-UnitDel.is)
    (c.delete_unit_of.ensures c.in-UnitDel.field-1)

pub returns-in-Rewrite : goal.returns-in-Rewrite
returns-in-Rewrite g c =
    let old = g.C.Underway.clause c.args.clause.now in
    let new = g.C.Underway.clause c.rewrite_of.new.clause in
    subst (λ w. IfOk c.rewrite_of.result (FollowsAs g.C.Underway.exceeds (later_of w) old (lent_clauses c.args.parents.now) new)) (sym c.in-Rewrite.is)
    (subst (λ (path : List ℕ). IfOk c.rewrite_of.result (FollowsAs g.C.Underway.exceeds (rewritten c.in-Rewrite.entry.rule c.in-Rewrite.entry.literal path) old (lent_clauses c.args.parents.now) new)) c.as_slice.ensures.value (c.rewrite_of.ensures c.in-Rewrite.entry.rule))
