-- What a term weighs, by rules.
use Rattle.std.specs.Prelude.{ℕ, ◌+◌, ◌*◌, min, if◌then◌else◌, List, [], ◌∷◌, ◌++◌, Option, None, Some, unwrap_or}
use Rattle.std.specs.Option.{option_map_or}
use Rattle.fol_core.specs.Literals.{ClauseTree}
use Rattle.fol_core.specs.Tree.{Tree, var, elem, app, Trees, none, more}
use Rattle.fol_core.specs.Weights.{WeightTree, number, of_variable, plus, times}
use Rattle.substitutions.specs.Bindings.{Binding}
use Rattle.unifiers.specs.Matching.{bound_term, matched, same_tree}

-- a rule: the instances of a term weigh what it says
pub record WeightRow : Type 0 where
  pub head : ℕ
  pub arguments : Trees
  pub weight : WeightTree

abbrev pub pattern_of : WeightRow → Tree
pattern_of r = app r.head r.arguments

-- a weight stops at the greatest one
abbrev pub weight_within : ℕ → ℕ
weight_within n = min n 2147483647

-- terms with their weights
abbrev pub Weighed : Type 0
Weighed = List (Tree × ℕ)

-- what a term among them weighs
abbrev pub weight_among : Weighed → Tree → ℕ
weight_among [] t = 1
weight_among (k ∷ ks) t = if same_tree k.0 t then k.1 else weight_among ks t

-- what a pattern weighs, the terms of its variables being bound to them
abbrev pub pattern_weight : Weighed → List Binding → WeightTree → ℕ
pattern_weight ks bs (number n) = n
pattern_weight ks bs (of_variable x) = option_map_or (weight_among ks) (bound_term bs x) 1
pattern_weight ks bs (plus v w) =
    weight_within (pattern_weight ks bs v + pattern_weight ks bs w)
pattern_weight ks bs (times v w) =
    weight_within (pattern_weight ks bs v * pattern_weight ks bs w)

-- by the first rule of which a term is an instance, where there is one
abbrev pub weight_by_rule : List WeightRow → Weighed → Tree → Option ℕ
weight_by_rule [] ks t = None
weight_by_rule (r ∷ rs) ks t =
    option_map_or (λ bs. Some (pattern_weight ks bs r.weight)) (matched (pattern_of r) t [])
    (weight_by_rule rs ks t)

-- what arguments weigh together
abbrev pub weight_of_all : Weighed → Trees → ℕ
weight_of_all ks none = 0
weight_of_all ks (more t ts) = weight_among ks t + weight_of_all ks ts

-- An application weighs what the first rule says of which it is an instance, else one more than its
-- arguments.
abbrev pub application_weight : List WeightRow → Weighed → ℕ → Trees → ℕ
application_weight rs ks f ts =
    unwrap_or (weight_by_rule rs ks (app f ts)) (weight_within (1 + weight_of_all ks ts))

-- a term in front of all those below it
abbrev pub with_application : List WeightRow → ℕ → Trees → Weighed → Weighed
with_application rs f ts ks = (app f ts, application_weight rs ks f ts) ∷ ks

-- a term and all terms in it, with their weights: a variable weighs 1
abbrev mutual
  pub weighed_tree : List WeightRow → Tree → Weighed
  weighed_tree rs (var x) = (var x, 1) ∷ []
  weighed_tree rs (elem k) = (elem k, 1) ∷ []
  weighed_tree rs (app f ts) = with_application rs f ts (weighed_trees rs ts)

  pub weighed_trees : List WeightRow → Trees → Weighed
  weighed_trees rs none = []
  weighed_trees rs (more t ts) = weighed_tree rs t ++ weighed_trees rs ts

abbrev pub term_weight : List WeightRow → Tree → ℕ
term_weight rs t = weight_among (weighed_tree rs t) t

-- the atoms of a clause together: signs weigh nothing
abbrev pub sum_of_atoms : List WeightRow → ClauseTree → ℕ
sum_of_atoms rs [] = 0
sum_of_atoms rs (l ∷ c) = term_weight rs l.atom + sum_of_atoms rs c

abbrev pub atoms_weight : List WeightRow → ClauseTree → ℕ
atoms_weight rs c = weight_within (sum_of_atoms rs c)
