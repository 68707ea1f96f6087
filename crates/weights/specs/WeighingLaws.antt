-- What terms weigh, each by those that it is made of.
use Rattle.std.specs.Prelude.{ℕ, ◌≡◌, ◌+◌, ◌*◌, List, [], ◌∷◌, Option, None, Some, unwrap_or}
use Rattle.std.specs.Option.{option_map_or}
use Rattle.fol_core.specs.Literals.{ClauseTree}
use Rattle.fol_core.specs.Tree.{Tree, app, Trees, none, more}
use Rattle.fol_core.specs.Weights.{WeightTree, number, of_variable, plus, times}
use Rattle.substitutions.specs.Bindings.{Binding}
use Rattle.unifiers.specs.Matching.{bound_term, matched}
use Rattle.prover_steps.specs.Searching.{clause_size}
use Rattle.weights.specs.Weighing.{WeightRow, pattern_of, weight_within, term_weight, atoms_weight}

-- what a pattern weighs whose variables weigh what their terms do
abbrev pub weight_under : (ℕ → ℕ) → WeightTree → ℕ
weight_under of (number n) = n
weight_under of (of_variable x) = of x
weight_under of (plus v w) = weight_within (weight_under of v + weight_under of w)
weight_under of (times v w) = weight_within (weight_under of v * weight_under of w)

-- what a variable weighs: as much as its term
abbrev pub variable_weight : List WeightRow → List Binding → ℕ → ℕ
variable_weight rs bs x = option_map_or (term_weight rs) (bound_term bs x) 1

-- by the first of some rules that fits, all rules weighing its variables
abbrev pub first_weight : List WeightRow → List WeightRow → Tree → Option ℕ
first_weight rs [] t = None
first_weight rs (p ∷ ps) t =
    option_map_or (λ bs. Some (weight_under (variable_weight rs bs) p.weight))
    (matched (pattern_of p) t []) (first_weight rs ps t)

abbrev pub sum_of_weights : List WeightRow → Trees → ℕ
sum_of_weights rs none = 0
sum_of_weights rs (more t ts) = term_weight rs t + sum_of_weights rs ts

-- The weight of an application follows from the weights of the terms in it.
abbrev pub WeightsFollow : Type 0
WeightsFollow =
    (rs : List WeightRow) (f : ℕ) (ts : Trees) → term_weight rs (app f ts)
    ≡ unwrap_or (first_weight rs rs (app f ts)) (weight_within (1 + sum_of_weights rs ts))

-- Where there are no rules, a clause weighs as much as it has symbols and variables.
abbrev pub SymbolsWeigh : Type 0
SymbolsWeigh = (c : ClauseTree) → atoms_weight [] c ≡ weight_within (clause_size c)
