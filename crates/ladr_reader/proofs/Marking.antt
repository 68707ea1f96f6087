-- Tokens of which some are marked as names.
use Rattle.std.proofs.Common.{◌≡◌, ℕ, ◌<◌, ◌+◌, Bool, true, false, List, [], ◌∷◌, length, drop, get_or, refl, sym, ap, ◌∙◌, arith, zero, suc, add-one}
use Rattle.ladr_lex.specs.Lexeme.{Lexeme, open_paren, close_paren, open_square, close_square, comma, full_stop, symbol, unreadable, lexeme_of, lexemes_of}
use Rattle.ladr_lex.specs.declared.token.Token.{Token}
use Rattle.ladr_reader.specs.Marks.{if_marked, marked}
use Rattle.ladr_reader.specs.Nesting.{most_open}

-- there are as many
pub marked_length : (ms : List Bool) (tokens : List Token) → length (marked ms (lexemes_of tokens)) ≡ length tokens
marked_length [] [] = refl
marked_length [] (t ∷ ts) = ap suc (marked_length [] ts)
marked_length (m ∷ ms) [] = refl
marked_length (m ∷ ms) (t ∷ ts) = ap suc (marked_length ms ts)

-- each with its mark
pub marked_at :
    (ms : List Bool) (tokens : List Token) (i : ℕ) (x : Token) → i < length tokens → x ≡ get_or tokens i x →
    if_marked (get_or ms i false) (lexeme_of x) ≡ get_or (marked ms (lexemes_of tokens)) i unreadable
marked_at ms [] i x h is = absurd (omega arith)
marked_at [] (t ∷ ts) zero x h is = ap lexeme_of is
marked_at [] (t ∷ ts) (suc i) x h is = marked_at [] ts i x (omega arith) is
marked_at (m ∷ ms) (t ∷ ts) zero x h is = ap (λ (y : Token). if_marked m (lexeme_of y)) is
marked_at (m ∷ ms) (t ∷ ts) (suc i) x h is = marked_at ms ts i x (omega arith) is

-- those from a place on
pub marked_from :
    (ms : List Bool) (tokens : List Token) (i : ℕ) (x : Token) → i < length tokens → x ≡ get_or tokens i x →
    drop i (marked ms (lexemes_of tokens)) ≡ if_marked (get_or ms i false) (lexeme_of x) ∷ drop (i + 1) (marked ms (lexemes_of tokens))
marked_from ms tokens i x h is = from ms tokens i h is ∙ ap (λ n. if_marked (get_or ms i false) (lexeme_of x) ∷ drop n (marked ms (lexemes_of tokens))) (sym (add-one i))
  where
    from : (ms : List Bool) (tokens : List Token) (i : ℕ) → i < length tokens → x ≡ get_or tokens i x →
        drop i (marked ms (lexemes_of tokens)) ≡ if_marked (get_or ms i false) (lexeme_of x) ∷ drop (suc i) (marked ms (lexemes_of tokens))
    from ms [] i h is = absurd (omega arith)
    from [] (t ∷ ts) zero h is = ap (λ (y : Token). lexeme_of y ∷ lexemes_of ts) (sym is)
    from [] (t ∷ ts) (suc i) h is = from [] ts i (omega arith) is
    from (m ∷ ms) (t ∷ ts) zero h is = ap (λ (y : Token). if_marked m (lexeme_of y) ∷ marked ms (lexemes_of ts)) (sym is)
    from (m ∷ ms) (t ∷ ts) (suc i) h is = from ms ts i (omega arith) is

-- no parenthesis is a name
pub noted_marked : (m : Bool) (x : Lexeme) (n : ℕ) (ts : List Lexeme) → most_open n (if_marked m x ∷ ts) ≡ most_open n (x ∷ ts)
noted_marked false x n ts = refl
noted_marked true open_paren n ts = refl
noted_marked true close_paren n ts = refl
noted_marked true open_square n ts = refl
noted_marked true close_square n ts = refl
noted_marked true comma n ts = refl
noted_marked true full_stop n ts = refl
noted_marked true (symbol k s) n ts = refl
noted_marked true unreadable n ts = refl
