-- Arrays that steps made, each of which wrote where nothing stood.
use Rattle.std.specs.Prelude.{ℕ, ◌≡◌, ◌<◌, List, [], ◌∷◌, length, replicate}
use Rattle.std.specs.List.{slice_index_or, slice_set}

-- from an array of blanks these steps, the latest first, made this one
abbrev pub IsMade : {X : Type 0} → X → ℕ → List (ℕ × X) → List X → Type 0
IsMade blank many [] xs = xs ≡ replicate many blank
IsMade blank many (p ∷ ps) xs =
    (p.0 < length xs) × (slice_index_or xs p.0 blank ≡ p.1)
    × IsMade blank many ps (slice_set xs p.0 blank)
