-- The patterns so far, and those of the rules left.
use Rattle.std.proofs.Common.{◌≡◌, ◌++◌, map, drop}
use Rattle.fol_core.specs.RuleView.{rule_of}
use Rattle.weights.specs.Heads.{rows_for}
use Rattle.weights.specs.Rows.{weight_row}
use Rattle.weights.proofs.rules.patterns_of.Given as goal

abbrev pub invariant-loop-rule : goal.invariant-loop-rule
invariant-loop-rule l = map weight_row l.patterns.items ++ rows_for l.symbols (map rule_of (drop l.rule-index l.rules)) ≡ rows_for l.symbols (map rule_of l.rules)
