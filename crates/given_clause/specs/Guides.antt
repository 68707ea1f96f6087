-- What guides a search of the code.
use Rattle.std.specs.Prelude.{map}
use Rattle.conclusions.specs.View.{rules_set}
use Rattle.given_clause.specs.declared.guide.Guide.{Guide}
use Rattle.held_clauses.specs.Order.{greater_of}
use Rattle.prover_steps.specs.Searching.{Setting}
use Rattle.weights.specs.Hints.{is_hinted, clause_weight}
use Rattle.weights.specs.Rows.{weight_row}

abbrev pub setting_of : Guide → Setting
setting_of g = record {
  rules = rules_set g.rules;
  greater = greater_of g.precedence;
  weight = clause_weight (map weight_row g.weights.patterns.items) g.weights.hints;
  is_hinted = is_hinted g.weights.hints;
  options = g.options;
}
