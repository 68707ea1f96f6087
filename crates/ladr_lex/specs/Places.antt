-- Lines and columns of a text, both from 1; a line ends with byte 10 alone, and columns count
-- bytes.
use Rattle.std.specs.Prelude.{ℕ, ◌+◌, Bool, ◌==◌, List, length, take, count_by}
use Rattle.std.specs.List.{after_last}

abbrev pub ends_line : ℕ → Bool
ends_line b = b == 10

-- one more than the ends of lines before the byte
abbrev pub line_of : List ℕ → ℕ → ℕ
line_of bytes byte = 1 + count_by ends_line (take byte bytes)

-- one more than the bytes between the last end of a line before the byte, if there is one, and the
-- byte
abbrev pub column_of : List ℕ → ℕ → ℕ
column_of bytes byte = 1 + length (after_last ends_line (take byte bytes))
