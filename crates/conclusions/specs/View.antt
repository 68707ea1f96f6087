-- The rules in force, as the code has them.
use Rattle.prover_steps.specs.Conclusions.{RulesInForce}
use Rattle.conclusions.specs.declared.rules.RulesInForce as declared

abbrev pub rules_set : declared.RulesInForce → RulesInForce
rules_set r = record {
  binary = r.binary;
  hyper = r.hyper;
  units = r.units;
  factors = r.factors;
  equalities = r.equalities;
}
