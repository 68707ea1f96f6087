-- What a search for free variables finds below quantifiers that it has passed.
use Rattle.std.specs.Prelude.{ℕ, List, [], ◌∷◌}
use Rattle.fol_core.specs.Free.{without}

-- the numbers but for those of a list
abbrev pub outside : List ℕ → List ℕ → List ℕ
outside [] xs = xs
outside (b ∷ bs) xs = without b (outside bs xs)
