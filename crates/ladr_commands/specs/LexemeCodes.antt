-- How the logic stores tokens.
use Rattle.std.specs.Prelude.{ℕ, ◌≡◌, List, [], ◌==◌, if◌then◌else◌, refl}
use Rattle.std.specs.Coded.{Coded, code_by, coded×, coded_ℕ, coded_list}
use Rattle.ladr_lex.specs.Lexeme.{Lexeme, ordinary, quoted, special, open_paren, close_paren, open_square, close_square, comma, full_stop, symbol, unreadable}

abbrev pub tag : Lexeme → ℕ × List ℕ
tag open_paren = (0, [])
tag close_paren = (1, [])
tag open_square = (2, [])
tag close_square = (3, [])
tag comma = (4, [])
tag full_stop = (5, [])
tag unreadable = (6, [])
tag (symbol ordinary text) = (7, text)
tag (symbol special text) = (8, text)
tag (symbol quoted text) = (9, text)

abbrev pub untag : ℕ × List ℕ → Lexeme
untag p =
    if p.0 == 0 then open_paren
    else (if p.0 == 1 then close_paren
    else (if p.0 == 2 then open_square else (if p.0 == 3 then close_square
    else (if p.0 == 4 then comma
    else (if p.0 == 5 then full_stop
    else (if p.0 == 6 then unreadable else (if p.0 == 7 then symbol ordinary p.1
    else (if p.0 == 8 then symbol special p.1 else symbol quoted p.1))))))))

pub untag-tag : (t : Lexeme) → untag (tag t) ≡ t
untag-tag open_paren = refl
untag-tag close_paren = refl
untag-tag open_square = refl
untag-tag close_square = refl
untag-tag comma = refl
untag-tag full_stop = refl
untag-tag unreadable = refl
untag-tag (symbol ordinary text) = refl
untag-tag (symbol special text) = refl
untag-tag (symbol quoted text) = refl

abbrev pub coded_lexeme : Coded Lexeme
coded_lexeme = code_by (ℕ × List ℕ) (coded× coded_ℕ (coded_list coded_ℕ)) tag untag untag-tag

abbrev pub coded_lexemes : Coded (List Lexeme)
coded_lexemes = coded_list coded_lexeme
