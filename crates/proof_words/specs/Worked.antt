-- Words of lines to work out.
use Rattle.std.specs.Prelude.{List, [], ◌∷◌, codes}
use Prim.Native.String.{String}
use Rattle.ladr_lex.specs.Cuts.{Piece}
use Rattle.ladr_lex.specs.Lexed.{lexed}
use Rattle.ladr_lex.specs.Lexeme.{Lexeme, lexeme}

-- tokens without their places
abbrev pub without_places : List Piece → List Lexeme
without_places [] = []
without_places (p ∷ ps) = lexeme p.kind p.text ∷ without_places ps

-- the tokens of a text
abbrev pub tokens_of : String → List Lexeme
tokens_of text = without_places (lexed (codes text))
