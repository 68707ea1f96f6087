-- The frame of a proof's text: a line that tells how many bytes its problem has, these bytes, and
-- what stands behind them.
use Rattle.std.specs.Prelude.{◌≡◌, ◌⊎◌, ℕ, ◌+◌, ◌≤◌, ◌<◌, List, ◌∷◌, ◌++◌, length, take, drop, slice_get, Option, Some, None, MatchOption, if◌then◌else◌, codes}
use Rattle.std.specs.List.{prefix_len}
use Rattle.ladr_lex.specs.Comments.{begins_with, is_in_line}
use Rattle.ladr_lex.specs.Numeral.{whole_number}

-- the bytes in front of the first end of a line
abbrev pub first_line : List ℕ → List ℕ
first_line bytes = take (prefix_len is_in_line bytes) bytes

-- the number of bytes that a line tells: `% Input N`
abbrev pub count_told : List ℕ → Option ℕ
count_told line = if begins_with (codes "% Input ") line then whole_number (drop 8 line) else None

-- The text is a line that tells how many bytes the problem has, these bytes with the end of a line,
-- and a rest.
pub record IsFramed (bytes problem rest : List ℕ) : Type 0 where
  pub line : List ℕ
  pub tells : count_told line ≡ Some (length problem)
  pub split : bytes ≡ line ++ (10 ∷ (problem ++ (10 ∷ rest)))

-- the bytes up to a place aren't all there, or no line ends at that place
abbrev pub EndsInside : List ℕ → ℕ → ℕ → Type 0
EndsInside bytes end byte =
    ((length bytes ≤ end) × (byte ≡ length bytes))
    ⊎ ((end < length bytes) × (byte ≡ end) × ¬ slice_get bytes end ≡ Some 10)

-- the frame can't be read at this byte: the first one, where the first line tells no number
abbrev pub IsUnframed : List ℕ → ℕ → Type 0
IsUnframed bytes byte =
    MatchOption (count_told (first_line bytes)) (byte ≡ 0)
    (λ n. EndsInside bytes (prefix_len is_in_line bytes + 1 + n) byte)
