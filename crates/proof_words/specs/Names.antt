-- The names of literals: `a` to `z`, then `aa`, `ab`, .., by their place.
use Rattle.std.specs.Prelude.{ℕ, ◌+◌, ◌*◌, ◌-◌, ◌^◌, min, Bool, false, List, [], ◌∷◌}
use Rattle.std.specs.List.{list_all}
use Rattle.std.specs.Char.{is_ascii_lowercase}

-- one small letter or more
abbrev pub is_literal_name : List ℕ → Bool
is_literal_name [] = false
is_literal_name (b ∷ bs) = list_all is_ascii_lowercase (b ∷ bs)

-- letters count from 1, as digits of 26
abbrev pub letters_from : ℕ → List ℕ → ℕ
letters_from n [] = n
letters_from n (b ∷ bs) = letters_from (n * 26 + (b - 96)) bs

-- the place that a name names, where one from 18,446,744,073,709,551,615 on counts as that
abbrev pub place_named : List ℕ → ℕ
place_named text = min (letters_from 0 text) (2 ^ 64) - 1
