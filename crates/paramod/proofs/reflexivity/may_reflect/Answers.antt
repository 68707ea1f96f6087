use Rattle.std.proofs.Common.{subst, arith}
use Rattle.derivation.specs.Equations.{left_of}
use Rattle.fol_core.specs.TermView.{tree_of}
use Rattle.paramod.proofs.Missing.{reflects_past, reflects_sign, reflects_not, reflects_apart}
use Rattle.discrim_tree.specs.Meeting.{NeverMeet}
use Rattle.paramod.proofs.reflexivity.may_reflect.Goals as goal

pub returns-then-a-literals : goal.returns-then-a-literals
returns-then-a-literals c = λ e. reflects_past c.as_slice-literals.result.now c.args.clause.now c.args.a c.as_slice-literals.ensures.literals (omega arith)

pub returns-then-literal : goal.returns-then-literal
returns-then-literal c = λ e.
    reflects_sign c.as_slice-literals.result.now c.args.clause.now c.args.a c.as_slice-literals.ensures.literals c.index-literals-a.result (omega arith) c.index-literals-a.is c.if-literal.true

pub returns-in_default : goal.returns-in_default
returns-in_default c = λ e.
    reflects_not c.as_slice-literals.result.now c.args.clause.now c.args.a c.as_slice-literals.ensures.literals c.index-literals-a.result (omega arith) c.index-literals-a.is
    c.in_default.ensures.cases

pub returns : goal.returns
returns c = λ e.
    reflects_apart c.as_slice-literals.result.now c.args.clause.now c.args.a c.as_slice-literals.ensures.literals c.index-literals-a.result (omega arith) c.index-literals-a.is
    (subst (λ t. NeverMeet (left_of (tree_of c.index-literals-a.result.atom)) t) c.in-Some.ensures.cases.right_is
    (subst (λ t. NeverMeet t (tree_of c.in-Some.right.now)) c.in-Some.ensures.cases.left_is (c.may_meet.ensures e)))
