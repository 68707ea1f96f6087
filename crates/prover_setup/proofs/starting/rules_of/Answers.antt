-- One clause more.

use Rattle.fol_problem.specs.Stated.{all_said}
use Rattle.prover_setup.proofs.Beginning.{rules_lower, rules_next}
use Rattle.prover_setup.proofs.starting.rules_of.Goals as goal

pub loop-i-preserved : goal.loop-i-preserved
loop-i-preserved c =
    rules_next (all_said c.args.inputs.now) c.args.first c.args.clauses.now c.loop-i.i c.index-clauses-i.result c.in_ok-number.number c.role_at-role.result c.loop-i-test.true c.index-clauses-i.is c.in_ok-number.ensures c.role_at-role.ensures
    c.loop-i.rules c.add_rule.new.rules c.in_ok-add_rule.ensures c.loop-i.invariant

pub add_rule-requires : goal.add_rule-requires
add_rule-requires c =
    rules_lower (all_said c.args.inputs.now) c.args.first c.args.clauses.now c.loop-i.i c.index-clauses-i.result c.in_ok-number.number c.role_at-role.result c.loop-i-test.true c.index-clauses-i.is c.in_ok-number.ensures c.role_at-role.ensures
    c.loop-i.rules c.loop-i.invariant
