-- The formula which says that names differ pairwise, as a term that is read.
use Rattle.std.specs.Prelude.{ℕ, zero, suc, ◌/◌, List, [], ◌∷◌, ◌++◌, map, length, take, drop, codes}
use Rattle.fol_core.specs.RawTree.{RawTree, named, no_raws}
use Rattle.ladr_formulas.specs.Means.{between}

-- a name without arguments
abbrev pub alone : List ℕ → RawTree
alone name = named name no_raws

-- two names in a denied equation
abbrev pub differ : List ℕ → List ℕ → RawTree
differ s t = between (codes "!=") (alone s) (alone t)

-- each name with each of those behind it, in order
abbrev pub all_differ : List (List ℕ) → List RawTree
all_differ [] = []
all_differ (s ∷ ss) = map (differ s) ss ++ all_differ ss

-- Parts joined as halves: of an odd number the first half is the smaller one. None are `$T`. The
-- number is at least that of the parts.
unfoldable pub halved : ℕ → List RawTree → RawTree
halved n [] = alone (codes "$T")
halved n (t ∷ []) = t
halved zero (t ∷ u ∷ ts) = alone (codes "$T")
halved (suc n) (t ∷ u ∷ ts) =
    between (codes "&") (halved n (take (length (t ∷ u ∷ ts) / 2) (t ∷ u ∷ ts)))
    (halved n (drop (length (t ∷ u ∷ ts) / 2) (t ∷ u ∷ ts)))

unfoldable pub distinct_formula : List (List ℕ) → RawTree
distinct_formula names = halved (length (all_differ names)) (all_differ names)
