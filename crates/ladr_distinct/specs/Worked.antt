-- Names and formulas for examples.
use Rattle.std.specs.Prelude.{ℕ, List, [], ◌∷◌, codes}
use Rattle.fol_core.specs.RawTree.{RawTree}
use Rattle.ladr_formulas.specs.Means.{between}

abbrev pub three_names : List (List ℕ)
three_names = codes "a" ∷ codes "b" ∷ codes "c" ∷ []

abbrev pub four_names : List (List ℕ)
four_names = codes "a" ∷ codes "b" ∷ codes "c" ∷ codes "d" ∷ []

abbrev pub both : RawTree → RawTree → RawTree
both t u = between (codes "&") t u

-- a variable, a variable in the style of Prolog, and a numeral, between a name twice
abbrev pub mixed_names : List (List ℕ)
mixed_names =
    codes "a" ∷ codes "x" ∷ codes "X" ∷ codes "2" ∷ codes "a" ∷ []

abbrev pub a_and_two : List (List ℕ)
a_and_two = codes "a" ∷ codes "2" ∷ []
