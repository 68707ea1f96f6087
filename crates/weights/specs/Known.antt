-- Terms whose weights are known.
use Rattle.std.specs.Prelude.{◌≡◌, ◌⊎◌, List, [], ◌∷◌}
use Rattle.fol_core.specs.Tree.{Tree, var, elem, app, Trees, none, more}
use Rattle.weights.specs.Weighing.{WeightRow, Weighed, term_weight}

-- a term has its weight among them
abbrev pub IsWeighed : Weighed → Tree → Type 0
IsWeighed [] t = ⊥
IsWeighed (k ∷ ks) t = (k.0 ≡ t) ⊎ IsWeighed ks t

-- and all terms in it have too
abbrev mutual
  pub IsWeighedThrough : Weighed → Tree → Type 0
  IsWeighedThrough ks (var x) = IsWeighed ks (var x)
  IsWeighedThrough ks (elem k) = IsWeighed ks (elem k)
  IsWeighedThrough ks (app f ts) = IsWeighed ks (app f ts) × AreWeighedThrough ks ts

  pub AreWeighedThrough : Weighed → Trees → Type 0
  AreWeighedThrough ks none = Unit {0}
  AreWeighedThrough ks (more t ts) = IsWeighedThrough ks t × AreWeighedThrough ks ts

-- each weight is that of its term
abbrev pub AreWeights : List WeightRow → Weighed → Type 0
AreWeights rs [] = Unit {0}
AreWeights rs (k ∷ ks) = (k.1 ≡ term_weight rs k.0) × AreWeights rs ks
