-- The tokens of a line, worked out.
use Rattle.std.specs.Prelude.{ℕ, List, [], ◌∷◌, codes}
use Rattle.ladr_lex.specs.Cuts.{Piece}
use Rattle.ladr_lex.specs.declared.token.TokenKind.{TokenKind}
use Rattle.ladr_lex.specs.declared.token.TokenKind.TheVariants.{Open, Close, Comma, Stop, Ordinary, Quoted, Special, Unreadable}

abbrev pub at : ℕ → TokenKind → List ℕ → Piece
at start kind text = record { kind = kind; text = text; start = start }

abbrev pub worked_formula : List ℕ
worked_formula = codes "all x p(x,f(y)) = a != b."

abbrev pub formula_tokens : List Piece
formula_tokens =
    at 0 Ordinary (codes "all") ∷ at 4 Ordinary (codes "x") ∷ at 6 Ordinary (codes "p")
    ∷ at 7 Open (codes "(") ∷ at 8 Ordinary (codes "x") ∷ at 9 Comma (codes ",") ∷
    at 10 Ordinary (codes "f") ∷ at 11 Open (codes "(") ∷ at 12 Ordinary (codes "y")
    ∷ at 13 Close (codes ")") ∷ at 14 Close (codes ")") ∷ at 16 Special (codes "=") ∷
    at 18 Ordinary (codes "a") ∷ at 20 Special (codes "!=") ∷ at 23 Ordinary (codes "b")
    ∷ at 24 Stop (codes ".") ∷ []

-- special bytes: `-` goes off the end of a run unless it is `<-`, and `'` stands alone
abbrev pub special_line : List ℕ
special_line = codes "|- -- <-> <-- +'-"

abbrev pub special_tokens : List Piece
special_tokens =
    at 0 Special (codes "|") ∷ at 1 Special (codes "-") ∷ at 3 Special (codes "-")
    ∷ at 4 Special (codes "-") ∷ at 6 Special (codes "<->") ∷
    at 10 Special (codes "<-") ∷ at 12 Special (codes "-") ∷ at 14 Special (codes "+")
    ∷ at 15 Special (codes "'") ∷ at 16 Special (codes "-") ∷ []

-- comments: to the end of the line, or from `%BEGIN` to the next `%END`
abbrev pub comment_lines : List ℕ
comment_lines = codes "p. % q.\n%BEGINNING r.\n%END s %BEG"

abbrev pub comment_tokens : List Piece
comment_tokens = at 0 Ordinary (codes "p") ∷ at 1 Stop (codes ".") ∷ at 27 Ordinary (codes "s") ∷ []

-- quoted symbols, whose quotes belong to them
abbrev pub quoted_line : List ℕ
quoted_line = codes "\"a %b\"c\"\""

abbrev pub quoted_tokens : List Piece
quoted_tokens =
    at 0 Quoted (codes "\"a %b\"") ∷ at 6 Ordinary (codes "c") ∷ at 7 Quoted (codes "\"\"") ∷ []

-- a quote that isn't closed on its line, and a block that isn't closed
abbrev pub open_lines : List ℕ
open_lines = codes "\"a\n{%BEGIN b. %EN"

abbrev pub open_tokens : List Piece
open_tokens =
    at 0 Unreadable (codes "\"") ∷ at 1 Ordinary (codes "a") ∷ at 3 Unreadable (codes "{")
    ∷ at 4 Unreadable (codes "%BEGIN b. %EN") ∷ []

-- an item, a comment with a full stop in it, and an item that lacks one
abbrev pub item_lines : List ℕ
item_lines = codes "p. % q.\nr s"

abbrev pub first_item : List Piece
first_item = at 0 Ordinary (codes "p") ∷ at 1 Stop (codes ".") ∷ []

abbrev pub last_item : List Piece
last_item = at 8 Ordinary (codes "r") ∷ at 10 Ordinary (codes "s") ∷ []
