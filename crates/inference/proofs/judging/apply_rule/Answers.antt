-- Each copy, and each word without a rule.
use Rattle.std.proofs.Common.{IfOk, sym, subst}
use Rattle.derivation.specs.View.{first_word_of}
use Rattle.inference.specs.Judged.{rule_by}
use Rattle.inference.specs.Applied.{AppliedAs}
use Rattle.inference.specs.Lent.{lent_clauses}
use Rattle.inference.proofs.judging.apply_rule.Goals as goal

pub returns-in-Copy : goal.returns-in-Copy
returns-in-Copy c = subst (λ w. IfOk c.copy_of.result (AppliedAs (rule_by (first_word_of w)) (lent_clauses c.args.parents.now))) (sym c.in-Copy.is) c.copy_of.ensures

pub returns-in-BackRewrite : goal.returns-in-BackRewrite
returns-in-BackRewrite c = subst (λ w. IfOk c.copy_of-in-BackRewrite.result (AppliedAs (rule_by (first_word_of w)) (lent_clauses c.args.parents.now))) (sym c.in-BackRewrite.is) c.copy_of-in-BackRewrite.ensures

pub returns-in-BackUnitDel : goal.returns-in-BackUnitDel
returns-in-BackUnitDel c = subst (λ w. IfOk c.copy_of-in-BackUnitDel.result (AppliedAs (rule_by (first_word_of w)) (lent_clauses c.args.parents.now))) (sym c.in-BackUnitDel.is) c.copy_of-in-BackUnitDel.ensures

pub returns-in-Assumption : goal.returns-in-Assumption
returns-in-Assumption c = subst (λ w. IfOk c.copy_of-in-Assumption.result (AppliedAs (rule_by (first_word_of w)) (lent_clauses c.args.parents.now))) (sym c.in-Assumption.is) c.copy_of-in-Assumption.ensures

pub returns-in-Goal : goal.returns-in-Goal
returns-in-Goal c = subst (λ w. IfOk c.copy_of-in-Goal.result (AppliedAs (rule_by (first_word_of w)) (lent_clauses c.args.parents.now))) (sym c.in-Goal.is) c.copy_of-in-Goal.ensures

pub returns-in-Clausify : goal.returns-in-Clausify
returns-in-Clausify c = subst (λ w. IfOk c.copy_of-in-Clausify.result (AppliedAs (rule_by (first_word_of w)) (lent_clauses c.args.parents.now))) (sym c.in-Clausify.is) c.copy_of-in-Clausify.ensures

pub returns-in-Deny : goal.returns-in-Deny
returns-in-Deny c = subst (λ w. IfOk c.copy_of-in-Deny.result (AppliedAs (rule_by (first_word_of w)) (lent_clauses c.args.parents.now))) (sym c.in-Deny.is) c.copy_of-in-Deny.ensures

pub returns-in-Instantiate : goal.returns-in-Instantiate
returns-in-Instantiate c = subst (λ w. IfOk c.copy_of-in-Instantiate.result (AppliedAs (rule_by (first_word_of w)) (lent_clauses c.args.parents.now))) (sym c.in-Instantiate.is) c.copy_of-in-Instantiate.ensures
