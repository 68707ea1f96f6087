-- What a search is made of: the options, what is stated, and what guides it.
use Rattle.std.specs.Prelude.{ℕ, Bool, List, map}
use Rattle.clausify.specs.Input.{clauses_in_table, axioms_in_table, with_skolems}
use Rattle.derivation.specs.Lines.{InputRow}
use Rattle.fol_core.specs.RuleView.{rule_of}
use Rattle.fol_core.specs.SkolemAxioms.{SkolemAxiom}
use Rattle.fol_problem.specs.Stated.{Stated, stated_of}
use Rattle.fol_core.specs.SymbolTable.{Symbol}
use Rattle.fol_core.specs.Tree.{Tree}
use Rattle.fol_core.specs.Weights.{Rule}
use Rattle.fol_problem.specs.declared.problem.Problem.{Problem}
use Rattle.held_clauses.specs.Order.{greater_by}
use Rattle.ladr_options.specs.declared.options.Options.{Options}
use Rattle.prover_steps.specs.Conclusions.{RulesInForce, rules_in_force}
use Rattle.prover_steps.specs.Searching.{Setting, SearchState, SearchReaches}
use Rattle.prover_steps.specs.Starting.{start_state}
use Rattle.term_order.specs.Listed.{symbol_rows}
use Rattle.term_order.specs.Precedences.{stands_above, weight_at}
use Rattle.term_order.specs.declared.precedence.SymbolRow.{SymbolRow}
use Rattle.weights.specs.Heads.{rows_for}
use Rattle.weights.specs.Hints.{HintRow, is_hinted, clause_weight}
use Rattle.weights.specs.HintRows.{row_of_hint}

-- the options; the symbols and the formulas; hints, rules of weights, the weights of names and the
-- names that are listed in their order
pub record SearchInput : Type 0 where
  pub options : Options
  pub stated : Stated
  pub hints : List HintRow
  pub weights : List Rule
  pub name_weights : List (List ℕ × ℕ)
  pub listed : List (List ℕ)

-- what the code has of it
abbrev pub input_in : Problem → SearchInput
input_in p = record {
  options = p.options;
  stated = stated_of p;
  hints = map row_of_hint p.hints.items;
  weights = map rule_of p.weights.items;
  name_weights = p.kbo_weights;
  listed = p.function_order;
}

-- the symbols with the Skolem symbols of the clauses behind them, and the clauses
abbrev pub symbols_in : SearchInput → List Symbol
symbols_in x = with_skolems x.stated.symbols x.stated

abbrev pub rows_in : SearchInput → List InputRow
rows_in x = clauses_in_table x.stated.symbols x.stated

-- what the Skolem symbols are to pick
abbrev pub witnesses_in : SearchInput → List SkolemAxiom
witnesses_in x = axioms_in_table x.stated.symbols x.stated

-- the rules in force, by all clauses
abbrev pub rules_in : SearchInput → RulesInForce
rules_in x = rules_in_force x.options (map (λ r. r.1) (rows_in x))

-- the order of terms, Skolem symbols and all
abbrev pub order_rows : SearchInput → List SymbolRow
order_rows x = symbol_rows x.listed x.name_weights (symbols_in x)

abbrev pub greater_in : SearchInput → Tree → Tree → Bool
greater_in x =
    greater_by x.options.order (stands_above (order_rows x)) (weight_at (order_rows x))

-- The setting of a search; no rule of weights has a Skolem symbol.
abbrev pub setting_in : SearchInput → Setting
setting_in x = record {
  rules = rules_in x;
  greater = greater_in x;
  weight = clause_weight (rows_for x.stated.symbols x.weights) x.hints;
  is_hinted = is_hinted x.hints;
  options = x.options;
}

-- the state in which it begins, and those that it reaches
abbrev pub start_in : SearchInput → SearchState
start_in x = start_state x.stated.formulas (rows_in x)

abbrev pub IsReachedIn : SearchInput → SearchState → Type 0
IsReachedIn x t = SearchReaches (setting_in x) (start_in x) t
