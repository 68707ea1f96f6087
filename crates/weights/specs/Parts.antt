-- The terms in a term, in an order, and their weights in it.
use Rattle.std.specs.Prelude.{ℕ, ◌≡◌, ◌+◌, Bool, if◌then◌else◌, List, [], ◌∷◌, ◌++◌, map}
use Rattle.std.specs.List.{list_any, slice_index_or}
use Rattle.std.specs.Option.{option_map_or}
use Rattle.fol_core.specs.Tree.{Tree, var, elem, app, Trees, none, more}
use Rattle.substitutions.specs.Bindings.{Binding}
use Rattle.unifiers.specs.Matching.{same_tree, bound_term}
use Rattle.weights.specs.Weighing.{WeightRow, weight_within, term_weight}
use Rattle.weights.specs.WeighingLaws.{sum_of_weights}

abbrev mutual
  -- the terms below a term, each behind those below it
  pub below : Tree → List Tree
  below (var x) = []
  below (elem k) = []
  below (app f ts) = parts_of ts

  -- and those in arguments
  pub parts_of : Trees → List Tree
  parts_of none = []
  parts_of (more t ts) = (below t ++ t ∷ []) ++ parts_of ts

-- and the term itself behind them
abbrev pub parts : Tree → List Tree
parts t = below t ++ t ∷ []

abbrev pub part_weights : List WeightRow → Tree → List ℕ
part_weights rs t = map (term_weight rs) (parts t)

abbrev pub weights_below : List WeightRow → Tree → List ℕ
weights_below rs t = map (term_weight rs) (below t)

abbrev pub parts_weights : List WeightRow → Trees → List ℕ
parts_weights rs ts = map (term_weight rs) (parts_of ts)

-- whether a term stands among others, and how many stand before it
abbrev pub stands_among : List Tree → Tree → Bool
stands_among ps u = list_any (λ p. same_tree p u) ps

abbrev pub place_among : List Tree → Tree → ℕ
place_among [] u = 0
place_among (p ∷ ps) u = if same_tree p u then 0 else 1 + place_among ps u

-- what a term in arguments weighs, and what a variable does that is bound to one, the weights of all
-- terms in them being listed
abbrev pub listed_weight : List ℕ → Trees → Tree → ℕ
listed_weight ks ts u = slice_index_or ks (place_among (parts_of ts) u) 1

abbrev pub standing_weight : List ℕ → List Binding → Trees → ℕ → ℕ
standing_weight ks bs ts x = option_map_or (listed_weight ks ts) (bound_term bs x) 1

-- a term weighs so much, and the weights of the terms in it are listed now, behind those before
pub record IsWeighedAs (rs : List WeightRow) (t : Tree) (n : ℕ) (old new : List ℕ) : Type 0 where
  pub weight : n ≡ term_weight rs t
  pub listed : new ≡ old ++ part_weights rs t

-- terms weigh so much together
pub record AreWeighedAs (rs : List WeightRow) (ts : Trees) (n : ℕ) (old new : List ℕ) : Type 0
  where
    pub weight : n ≡ weight_within (sum_of_weights rs ts)
    pub listed : new ≡ old ++ parts_weights rs ts
