-- The disjuncts of a term, from the code's parts.
use Rattle.std.specs.Prelude.{ℕ, min, List, [], ◌∷◌, ◌++◌, Option, Some, None, reverse}
use Rattle.fol_core.specs.RawTree.{RawTree, depth}
use Rattle.ladr_reader.specs.Capped.{disjunction_tree}

-- the disjuncts before the last, the last of them first, and the last
abbrev pub in_order : List RawTree → RawTree → List RawTree
in_order before last = reverse before ++ last ∷ []

abbrev pub depth_if : Option RawTree → ℕ
depth_if None = 0
depth_if (Some t) = depth t

-- the levels of the term that they are, as far as they are counted
abbrev pub levels_of : List RawTree → ℕ
levels_of ts = min 4294967295 (depth_if (disjunction_tree ts))
