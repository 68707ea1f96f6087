-- Tokens as definitions see them: without their places.
use Rattle.std.specs.Prelude.{ℕ, List, [], ◌∷◌}
use Rattle.ladr_lex.specs.Tokens.{token_kind, token_text}
use Rattle.ladr_lex.specs.declared.token.Token.{Token}
use Rattle.ladr_lex.specs.declared.token.TokenKind.{TokenKind}
use Rattle.ladr_lex.specs.declared.token.TokenKind.TheVariants.{Open, Close, LeftSquare, RightSquare, Comma, Stop, Ordinary, Quoted, Special, Unreadable}

-- how a symbol is written: as a run of letters and digits, in quotes, or as a run of special bytes
pub data Sort : Type 0 where
  ordinary : Sort
  quoted : Sort
  special : Sort

-- punctuation, a symbol by its sort and its bytes (the quotes too), or what no item has
pub data Lexeme : Type 0 where
  open_paren : Lexeme
  close_paren : Lexeme
  open_square : Lexeme
  close_square : Lexeme
  comma : Lexeme
  full_stop : Lexeme
  symbol : Sort → List ℕ → Lexeme
  unreadable : Lexeme

-- the token of a kind and a text
abbrev pub lexeme : TokenKind → List ℕ → Lexeme
lexeme Open text = open_paren
lexeme Close text = close_paren
lexeme LeftSquare text = open_square
lexeme RightSquare text = close_square
lexeme Comma text = comma
lexeme Stop text = full_stop
lexeme Ordinary text = symbol ordinary text
lexeme Quoted text = symbol quoted text
lexeme Special text = symbol special text
lexeme Unreadable text = unreadable

abbrev pub lexeme_of : Token → Lexeme
lexeme_of t = lexeme (token_kind t) (token_text t)

-- the tokens of a text, without their places
abbrev pub lexemes_of : List Token → List Lexeme
lexemes_of [] = []
lexemes_of (t ∷ ts) = lexeme_of t ∷ lexemes_of ts
