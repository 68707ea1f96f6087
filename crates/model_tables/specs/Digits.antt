-- Lists of digits, each below a bound of its own, as numbers: the first digit is the most
-- significant.
use Rattle.std.specs.Prelude.{ℕ, ◌+◌, ◌*◌, ◌<◌, List, [], ◌∷◌}

-- each digit is below its bound
abbrev pub AreDigits : List ℕ → List ℕ → Type 0
AreDigits [] [] = Unit {0}
AreDigits [] (d ∷ ds) = ⊥
AreDigits (b ∷ bs) [] = ⊥
AreDigits (b ∷ bs) (d ∷ ds) = (d < b) × AreDigits bs ds

-- how many lists of digits there are
abbrev pub digits_count : List ℕ → ℕ
digits_count [] = 1
digits_count (b ∷ bs) = b * digits_count bs

-- the number that digits write: how many lists of digits stand before them, where the last digit
-- runs fastest
abbrev pub digits_number : List ℕ → List ℕ → ℕ
digits_number [] ds = 0
digits_number (b ∷ bs) [] = 0
digits_number (b ∷ bs) (d ∷ ds) = d * digits_count bs + digits_number bs ds
