-- The classes of bytes.
use Rattle.std.specs.Prelude.{ℕ, Bool, not, ◌==◌, ◌||◌, ◌&&◌, nat_le, codes}
use Rattle.std.specs.List.{list_any}
use Rattle.std.specs.Char.{is_ascii_alphanumeric}

-- tabulator, end of line, carriage return, space
unfoldable pub is_blank : ℕ → Bool
is_blank b = b == 9 || b == 10 || b == 13 || b == 32

unfoldable pub is_punctuation : ℕ → Bool
is_punctuation b = list_any (λ c. b == c) (codes "()[],.")

-- letters, digits, `_` and `$`
unfoldable pub is_ordinary : ℕ → Bool
is_ordinary b = is_ascii_alphanumeric b || b == 95 || b == 36

-- the special bytes but for `'`
unfoldable pub is_special : ℕ → Bool
is_special b = list_any (λ c. b == c) (codes "+-*/\\^<>=~?@&|!#;`")

abbrev pub is_dash : ℕ → Bool
is_dash b = b == 45

abbrev pub is_apostrophe : ℕ → Bool
is_apostrophe b = b == 39

abbrev pub is_quote : ℕ → Bool
is_quote b = b == 34

-- what stands between quotes: bytes from 32 on, but no quote
abbrev pub is_quotable : ℕ → Bool
is_quotable b = nat_le 32 b && not (is_quote b)

-- `%`, which begins a comment
abbrev pub is_percent : ℕ → Bool
is_percent b = b == 37
