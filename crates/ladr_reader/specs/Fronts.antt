-- A term at the front of tokens: it goes up to a delimiter.
use Rattle.std.specs.Prelude.{◌≡◌, ℕ, ◌+◌, ◌-◌, ◌==◌, List, [], ◌∷◌, ◌++◌, Option, Some, None, length, if◌then◌else◌}
use Rattle.std.specs.Option.{option_map_or}
use Rattle.fol_core.specs.RawTree.{RawTree}
use Rattle.ladr_lex.specs.Lexeme.{Lexeme, open_paren, close_paren, open_square, close_square, comma, full_stop, symbol, unreadable}
use Rattle.ladr_reader.specs.Capped.{disjuncts_within}
use Rattle.ladr_reader.specs.Reads.{Item}
use Rattle.ladr_reader.specs.Table.{OperatorTable}

-- how many parentheses are open behind a token, behind n that are open; none where it delimits a
-- term: `]`, a full stop, and outside parentheses a comma or a closing one
abbrev pub open_behind : Lexeme → ℕ → Option ℕ
open_behind open_paren n = Some (n + 1)
open_behind close_paren n = if n == 0 then None else Some (n - 1)
open_behind open_square n = Some n
open_behind close_square n = None
open_behind comma n = if n == 0 then None else Some n
open_behind full_stop n = None
open_behind (symbol k s) n = Some n
open_behind unreadable n = Some n

-- the tokens before the first delimiter, behind n parentheses that are open
abbrev pub term_run : ℕ → List Lexeme → List Lexeme
term_run n [] = []
term_run n (t ∷ ts) = option_map_or (λ m. t ∷ term_run m ts) (open_behind t n) []

-- these tokens with a full stop behind them
abbrev pub stopped : List Lexeme → List Lexeme
stopped ts = term_run 0 ts ++ full_stop ∷ []

-- the term that the tokens have at their front, and how many of them it is
abbrev pub IsFront : OperatorTable → List Lexeme → RawTree → ℕ → Type 0
IsFront g ts t n = Item g (stopped ts) t × (n ≡ length (term_run 0 ts))

-- the tokens are an item, of whose term this is built
abbrev pub IsTermOf : ℕ → OperatorTable → List Lexeme → Option (List RawTree) → Type 0
IsTermOf n g ts term = (t : RawTree) × Item g ts t × (term ≡ disjuncts_within n t)
