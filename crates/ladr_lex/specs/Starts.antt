-- What begins with a byte, and the kind of a token's bytes.
use Rattle.std.specs.Prelude.{ℕ, ◌==◌, if◌then◌else◌, List, [], ◌∷◌}
use Rattle.ladr_lex.specs.Bytes.{is_blank, is_ordinary, is_special, is_apostrophe, is_quote, is_percent}
use Rattle.ladr_lex.specs.declared.bytes.TokenStart.{TokenStart}
use Rattle.ladr_lex.specs.declared.bytes.TokenStart.TheVariants.{Blank, Word, Sign, Quote, Percent, Single}
use Rattle.ladr_lex.specs.declared.token.TokenKind.{TokenKind}
use Rattle.ladr_lex.specs.declared.token.TokenKind.TheVariants.{Open, Close, LeftSquare, RightSquare, Comma, Stop, Ordinary, Quoted, Special, Unreadable}

-- what begins with a byte
unfoldable pub start_of : ℕ → TokenStart
start_of b =
    if is_blank b then Blank
    else (if is_ordinary b then Word
    else (if is_special b then Sign
    else (if is_quote b then Quote
    else (if is_percent b then Percent
    else (if is_apostrophe b then Single Special
    else (if b == 40 then Single Open
    else (if b == 41 then Single Close
    else (if b == 91 then Single LeftSquare
    else (if b == 93 then Single RightSquare
    else (if b == 44 then Single Comma
    else (if b == 46 then Single Stop
    else Single Unreadable)))))))))))

-- the kind of a token that begins so, with the bytes behind its first; a quote alone is unreadable
abbrev pub kind_with : TokenStart → List ℕ → TokenKind
kind_with Blank bs = Unreadable
kind_with Word bs = Ordinary
kind_with Sign bs = Special
kind_with Quote [] = Unreadable
kind_with Quote (b ∷ bs) = Quoted
kind_with Percent bs = Unreadable
kind_with (Single kind) bs = kind

-- the kind of a token's bytes
abbrev pub kind_in : List ℕ → TokenKind
kind_in [] = Unreadable
kind_in (b ∷ bs) = kind_with (start_of b) bs
