-- Where a text stands in an output.
use Rattle.std.specs.Prelude.{◌≡◌, ℕ, List, [], ◌∷◌, ◌++◌, ◌⊎◌}

-- whole lines: nothing, or bytes of which the last one ends a line
abbrev pub AreWholeLines : List ℕ → Type 0
AreWholeLines [] = Unit {0}
AreWholeLines (b ∷ []) = b ≡ 10
AreWholeLines (b ∷ c ∷ bs) = AreWholeLines (c ∷ bs)

-- the text stands in the output right after these bytes, where a line begins
abbrev pub StandsAfter : List ℕ → List ℕ → List ℕ → Type 0
StandsAfter before text output =
    AreWholeLines before × ((after : List ℕ) × (output ≡ before ++ (text ++ after)))

abbrev pub Stands : List ℕ → List ℕ → Type 0
Stands text output = (before : List ℕ) × StandsAfter before text output

-- one of the texts is a front of the other
abbrev pub HaveOneFront : List ℕ → List ℕ → Type 0
HaveOneFront s t = (rest : List ℕ) × ((s ≡ t ++ rest) ⊎ (t ≡ s ++ rest))
