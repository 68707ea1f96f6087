-- Numerals and their numbers.
use Rattle.std.specs.Prelude.{ℕ, ◌+◌, ◌*◌, ◌-◌, ◌^◌, min, Bool, false, not, ◌&&◌, ◌||◌, nat_lt, length, ◌==◌, List, [], ◌∷◌, Option, Some, None, if◌then◌else◌, unwrap_or}
use Rattle.std.specs.List.{list_all}
use Rattle.std.specs.Char.{is_ascii_digit}

-- one digit or more, of which the first isn't 0 unless it is alone
abbrev pub is_numeral : List ℕ → Bool
is_numeral [] = false
is_numeral (b ∷ bs) = list_all is_ascii_digit (b ∷ bs) && (not (b == 48) || length bs == 0)

-- the number that digits write behind those read, which make n
abbrev pub value_from : ℕ → List ℕ → ℕ
value_from n [] = n
value_from n (b ∷ bs) = value_from (n * 10 + (b - 48)) bs

-- the number that digits write
abbrev pub value : List ℕ → ℕ
value text = value_from 0 text

-- a number, if it is at most 18,446,744,073,709,551,615
abbrev pub fitting : ℕ → Option ℕ
fitting n = if nat_lt n (2 ^ 64) then Some n else None

-- the number of a numeral, if the text is one and its number isn't too great
abbrev pub whole_number : List ℕ → Option ℕ
whole_number text = if is_numeral text then fitting (value text) else None

-- the number of a numeral, where one above 4,294,967,295 counts as this
abbrev pub limited_number_of : List ℕ → ℕ
limited_number_of text = min 4294967295 (unwrap_or (whole_number text) 4294967295)
