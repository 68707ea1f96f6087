-- Which texts would run together, and how a space keeps them apart.
use Rattle.std.specs.Prelude.{ℕ, Bool, false, ◌&&◌, ◌||◌, List, [], ◌∷◌, ◌++◌, Option, Some, None, if◌then◌else◌, codes}
use Rattle.ladr_lex.specs.Bytes.{is_ordinary, is_special, is_quote}

-- a byte of an ordinary symbol, or a quote
abbrev pub is_wordly : ℕ → Bool
is_wordly b = is_ordinary b || is_quote b

-- two bytes that meet run together where both are special (`'` isn't meant), or both are ordinary
-- or quotes
abbrev pub run_together : ℕ → ℕ → Bool
run_together a b = (is_special a && is_special b) || (is_wordly a && is_wordly b)

abbrev pub first_byte : List ℕ → Option ℕ
first_byte [] = None
first_byte (b ∷ bs) = Some b

abbrev pub last_of : List ℕ → Option ℕ
last_of [] = None
last_of (b ∷ []) = Some b
last_of (b ∷ c ∷ cs) = last_of (c ∷ cs)

abbrev pub both_join : Option ℕ → Option ℕ → Bool
both_join None b = false
both_join (Some a) None = false
both_join (Some a) (Some b) = run_together a b

-- whether a text would run into the one behind it
abbrev pub runs_into : List ℕ → List ℕ → Bool
runs_into left right = both_join (last_of left) (first_byte right)

-- a text with another behind it, and a space between them where they would run together
abbrev pub kept_apart : List ℕ → List ℕ → List ℕ
kept_apart left right = left ++ (if runs_into left right then codes " " else []) ++ right
