-- The code's draft as what was read so far.
use Rattle.std.specs.Prelude.{map}
use Rattle.fol_core.specs.RuleView.{rule_of}
use Rattle.ladr_problem.specs.Sofar.{Sofar, input_of, hint_of}
use Rattle.ladr_problem.specs.declared.draft.Draft.{Draft}

abbrev pub sofar_of : Draft → Sofar
sofar_of d = record {
  settings = d.settings;
  symbols = d.symbols;
  formulas = map input_of d.inputs.items;
  hints = map hint_of d.hints.items;
  weights = map rule_of d.weights.items;
  kbo_weights = d.kbo_weights;
}
