-- Comments: with `%BEGIN` a block up to the next `%END`, with any other `%` the rest of the line.
use Rattle.std.specs.Prelude.{ℕ, suc, Bool, true, false, not, ◌==◌, ◌&&◌, length, List, [], ◌∷◌, Option, Some, None, is_some, if◌then◌else◌, codes}
use Rattle.std.specs.Option.{option_map}
use Rattle.std.specs.List.{list_all}
use Rattle.ladr_lex.specs.Bytes.{is_percent}
use Rattle.ladr_lex.specs.Places.{ends_line}

-- whether bytes begin with a word
abbrev pub begins_with : List ℕ → List ℕ → Bool
begins_with [] bytes = true
begins_with (c ∷ cs) [] = false
begins_with (c ∷ cs) (b ∷ bs) = b == c && begins_with cs bs

-- how many bytes there are up to the end of the first such word, if the word is in them
abbrev pub up_to : List ℕ → List ℕ → Option ℕ
up_to word [] = None
up_to word (b ∷ bs) =
    if begins_with word (b ∷ bs) then Some (length word) else option_map suc (up_to word bs)

abbrev pub contains : List ℕ → List ℕ → Bool
contains word bytes = is_some (up_to word bytes)

abbrev pub is_just : Option ℕ → ℕ → Bool
is_just None n = false
is_just (Some m) n = m == n

-- whether the first such word is at the end of the bytes
abbrev pub ends_first : List ℕ → List ℕ → Bool
ends_first word bytes = is_just (up_to word bytes) (length bytes)

abbrev pub begins_block : List ℕ → Bool
begins_block text = begins_with (codes "%BEGIN") text

-- `%BEGIN`, and no `%END`
abbrev pub is_open_block : List ℕ → Bool
is_open_block text = begins_block text && not (contains (codes "%END") text)

-- a byte outside the end of its line
abbrev pub is_in_line : ℕ → Bool
is_in_line b = not (ends_line b)

abbrev pub is_line_comment : List ℕ → Bool
is_line_comment [] = false
is_line_comment (b ∷ bs) = is_percent b && list_all is_in_line bs

-- a block up to its end, or else `%` and bytes of its line
abbrev pub is_comment : List ℕ → Bool
is_comment text = if begins_block text then ends_first (codes "%END") text else is_line_comment text
