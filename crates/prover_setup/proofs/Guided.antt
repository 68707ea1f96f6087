-- A guide by its parts.
use Rattle.std.proofs.Common.{◌≡◌, ap, ◌∙◌, List}
use Rattle.held_clauses.specs.Order.{greater_by}
use Rattle.ladr_options.specs.declared.options.Order.{Order}
use Rattle.prover_setup.specs.SearchInputs.{SearchInput, rules_in, order_rows, setting_in}
use Rattle.prover_steps.specs.Conclusions.{RulesInForce}
use Rattle.prover_steps.specs.Searching.{Setting}
use Rattle.term_order.specs.Precedences.{stands_above, weight_at}
use Rattle.term_order.specs.declared.precedence.SymbolRow.{SymbolRow}
use Rattle.weights.specs.Heads.{rows_for}
use Rattle.weights.specs.Hints.{HintRow, is_hinted, clause_weight}
use Rattle.weights.specs.Weighing.{WeightRow}

module _ (x : SearchInput) where
  abbrev pub setting_by : RulesInForce → Order → List SymbolRow → List WeightRow → List HintRow → Setting
  setting_by rules order rows patterns hints = record {
    rules = rules;
    greater = greater_by order (stands_above rows) (weight_at rows);
    weight = clause_weight patterns hints;
    is_hinted = is_hinted hints;
    options = x.options;
  }

  pub guided : (rules : RulesInForce) (order : Order) (rows : List SymbolRow) (patterns : List WeightRow) (hints : List HintRow) → rules ≡ rules_in x → order ≡ x.options.order → rows ≡ order_rows x
      → patterns ≡ rows_for x.stated.symbols x.weights → hints ≡ x.hints → setting_by rules order rows patterns hints ≡ setting_in x
  guided rules order rows patterns hints e f g h i =
      ap (λ y. setting_by y order rows patterns hints) e
      ∙ ap (λ y. setting_by (rules_in x) y rows patterns hints) f
      ∙ ap (λ y. setting_by (rules_in x) x.options.order y patterns hints) g
      ∙ ap (λ y. setting_by (rules_in x) x.options.order (order_rows x) y hints) h
      ∙ ap (λ y. setting_by (rules_in x) x.options.order (order_rows x) (rows_for x.stated.symbols x.weights) y) i
