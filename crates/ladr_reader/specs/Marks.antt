-- Tokens that are read as names, whatever an operator made of them.
use Rattle.std.specs.Prelude.{ℕ, Bool, true, false, List, [], ◌∷◌, ◌++◌, codes}
use Rattle.ladr_lex.specs.Lexeme.{Lexeme, open_paren, close_paren, open_square, close_square, comma, full_stop, symbol, unreadable, quoted}

-- a name in quotes; no such name has an operator
abbrev pub in_quotes : List ℕ → List ℕ
in_quotes s = codes "\"" ++ s ++ codes "\""

-- A symbol as a name: it is read as its name in quotes is, so it is no operator, no word of a
-- quantifier and no quantifier's variable.
abbrev pub as_name : Lexeme → Lexeme
as_name open_paren = open_paren
as_name close_paren = close_paren
as_name open_square = open_square
as_name close_square = close_square
as_name comma = comma
as_name full_stop = full_stop
as_name (symbol k s) = symbol quoted (in_quotes s)
as_name unreadable = unreadable

-- a token that may be marked
abbrev pub if_marked : Bool → Lexeme → Lexeme
if_marked true t = as_name t
if_marked false t = t

-- the marks tell which tokens are names; those behind the last mark are read as they are
abbrev pub marked : List Bool → List Lexeme → List Lexeme
marked [] ts = ts
marked (m ∷ ms) [] = []
marked (m ∷ ms) (t ∷ ts) = if_marked m t ∷ marked ms ts
