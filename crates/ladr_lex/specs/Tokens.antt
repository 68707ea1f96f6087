-- What a token of the code stands for.
use Rattle.std.specs.Prelude.{ℕ, ◌+◌, List, take, drop}
use Rattle.ladr_lex.specs.Starts.{kind_in}
use Rattle.ladr_lex.specs.declared.token.Token.{Token}
use Rattle.ladr_lex.specs.declared.token.TokenKind.{TokenKind}

-- its bytes
unfoldable pub token_text : Token → List ℕ
token_text t = take t.len (drop t.at t.source.now.bytes.now)

-- their kind
unfoldable pub token_kind : Token → TokenKind
token_kind t = kind_in (token_text t)

-- the place of the first of them
unfoldable pub token_start : Token → ℕ
token_start t = t.source.now.start + t.at
