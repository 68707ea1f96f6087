-- What was read of a rule of weights.
use Rattle.std.specs.Prelude.{◌≡◌, ℕ, List, Option, Some, None}
use Rattle.fol_core.specs.RuleView.{rule_of}
use Rattle.fol_core.specs.SymbolTable.{Symbol}
use Rattle.fol_core.specs.Weights.{Rule}
use Rattle.fol_core.specs.declared.weights.KboWeight.{KboWeight}
use Rattle.ladr_formulas.specs.Formulas.{Made}
use Rattle.ladr_rules.specs.declared.rules.RuleRead.{RuleRead}

-- the rule that was read is this one, and this table stands behind it
pub record IsRule (m : Made Rule) (r : RuleRead) (table : List Symbol) : Type 0 where
  pub rule : rule_of r.rule ≡ m.tree
  pub least : r.least ≡ m.reading.least
  pub large : r.large ≡ m.reading.large
  pub symbols : table ≡ m.reading.symbols

-- a rule was read where there is one; else nothing was entered
abbrev pub IsRuleIn : Option (Made Rule) → Option RuleRead → List Symbol → List Symbol → Type 0
IsRuleIn None None old new = new ≡ old
IsRuleIn None (Some r) old new = ⊥
IsRuleIn (Some m) None old new = ⊥
IsRuleIn (Some m) (Some r) old new = IsRule m r new

abbrev pub kbo_of : KboWeight → List ℕ × ℕ
kbo_of k = (k.name, k.weight)
