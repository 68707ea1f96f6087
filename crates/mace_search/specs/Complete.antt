-- Tables no two of which are the same.
use Rattle.std.specs.Prelude.{◌≢◌, List, [], ◌∷◌}
use Rattle.model_tables.specs.Tables.{Finite}

-- none of these is t
abbrev pub IsNewModel : Finite → List Finite → Type 0
IsNewModel t [] = Unit {0}
IsNewModel t (u ∷ us) = (t ≢ u) × IsNewModel t us

-- no two of these are the same
abbrev pub AreDifferent : List Finite → Type 0
AreDifferent [] = Unit {0}
AreDifferent (t ∷ ts) = IsNewModel t ts × AreDifferent ts
