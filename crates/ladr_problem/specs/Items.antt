-- Tokens cut into items.
use Rattle.std.specs.Prelude.{Bool, List, [], ◌∷◌, if◌then◌else◌}
use Rattle.ladr_lex.specs.Cuts.{Piece}
use Rattle.ladr_lex.specs.Item.{is_stop}
use Rattle.ladr_lex.specs.Lexed.{lexed_from}
use Rattle.ladr_lex.specs.Lexeme.{Lexeme, lexeme}
use Rattle.ladr_lex.specs.declared.token.Text.{Text}
use Rattle.ladr_lex.specs.declared.token.TokenKind.{TokenKind}

abbrev pub is_stop_kind : TokenKind → Bool
is_stop_kind kind = is_stop kind

-- one more token in front of the first item
abbrev pub in_first_item : Piece → List (List Piece) → List (List Piece)
in_first_item p [] = (p ∷ []) ∷ []
in_first_item p (item ∷ items) = (p ∷ item) ∷ items

-- each full stop ends an item; the last item lacks one where the tokens don't end with one
abbrev pub items_of : List Piece → List (List Piece)
items_of [] = []
items_of (p ∷ ps) =
    if is_stop_kind p.kind then (p ∷ []) ∷ items_of ps else in_first_item p (items_of ps)

-- an item in front of others, if it has tokens
abbrev pub in_front : List Piece → List (List Piece) → List (List Piece)
in_front [] items = items
in_front (p ∷ ps) items = (p ∷ ps) ∷ items

-- the tokens of a text
abbrev pub tokens_of : Text → List Piece
tokens_of text = lexed_from text.start 0 text.bytes.now

-- tokens without their places
abbrev pub lexemes : List Piece → List Lexeme
lexemes [] = []
lexemes (p ∷ ps) = lexeme p.kind p.text ∷ lexemes ps
