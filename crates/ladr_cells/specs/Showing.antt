-- Models that are shown of what is stated.
use Rattle.std.specs.Prelude.{◌≡◌, ◌⊎◌, ℕ, List, [], ◌∷◌}
use Rattle.fol_problem.specs.Stated.{Stated}
use Rattle.mace_search.specs.Models.{IsModel}
use Rattle.model_tables.specs.Isomorphism.{IsIsomorphism}
use Rattle.model_tables.specs.Tables.{Finite}

abbrev pub IsOneOf : Finite → List Finite → Type 0
IsOneOf u [] = ⊥
IsOneOf u (v ∷ us) = (u ≡ v) ⊎ IsOneOf u us

-- Each model of size n is one of these with its elements renamed, those apart that the formulas
-- name. What it has for the Skolem symbols doesn't count.
abbrev pub CoverModels : Stated → ℕ → List Finite → Type 0
CoverModels p n us =
    (t : Finite) → IsModel p n t
    → (u : Finite) × IsOneOf u us × ((r : ℕ → ℕ) × IsIsomorphism n p r t u)
