-- Which tokens may stand at a place.
use Rattle.std.specs.Prelude.{ℕ, Bool, true, false, ◌||◌, List, [], Option, Some, None, is_some, if◌then◌else◌, codes}
use Rattle.std.specs.Str.{bytes_eq}
use Rattle.fol_core.specs.declared.symbols.Kind.{Kind}
use Rattle.fol_core.specs.declared.symbols.Kind.TheVariants.{Function, Relation}
use Rattle.ladr_lex.specs.Lexeme.{Lexeme, ordinary, special, open_paren, close_paren, open_square, close_square, comma, full_stop, symbol}
use Rattle.ladr_lex.specs.Numeral.{is_numeral}
use Rattle.ladr_commands.specs.declared.wanted.Wanted.{Wanted}
use Rattle.ladr_commands.specs.declared.wanted.Wanted.TheVariants.{Open, Close, OpenSquare, CloseSquare, Comma, Stop, Symbol, Numeral, CommandWord, CommaOrCloseSquare, SymbolOrOpenSquare, NumeralOrClose, TesterWord, InterpretationWord, Equality, Place, CommaOrOpen, CommaOrClose, SymbolOrCloseSquare, KindWord, KindWordOrCloseSquare}
use Rattle.ladr_commands.specs.declared.word.Word.{Word}
use Rattle.ladr_commands.specs.declared.word.Word.TheVariants as word

-- punctuation; a symbol of any sort; a numeral
abbrev pub is_open : Lexeme → Bool
is_open open_paren = true
is_open t = false

abbrev pub is_close : Lexeme → Bool
is_close close_paren = true
is_close t = false

abbrev pub is_open_square : Lexeme → Bool
is_open_square open_square = true
is_open_square t = false

abbrev pub is_close_square : Lexeme → Bool
is_close_square close_square = true
is_close_square t = false

abbrev pub is_comma : Lexeme → Bool
is_comma comma = true
is_comma t = false

abbrev pub is_stop : Lexeme → Bool
is_stop full_stop = true
is_stop t = false

abbrev pub is_symbol : Lexeme → Bool
is_symbol (symbol sort text) = true
is_symbol t = false

abbrev pub is_number : Lexeme → Bool
is_number (symbol ordinary text) = is_numeral text
is_number t = false

-- the bytes of a symbol
abbrev pub symbol_text : Lexeme → List ℕ
symbol_text (symbol sort text) = text
symbol_text t = []

-- the words that begin commands
abbrev pub word_of : List ℕ → Option Word
word_of text =
    if bytes_eq text (codes "set") then Some word.Set
    else (if bytes_eq text (codes "clear") then Some word.Clear
    else (if bytes_eq text (codes "assign") then Some word.Assign
    else (if bytes_eq text (codes "op") then Some word.Op
    else (if bytes_eq text (codes "function_order") then Some word.FunctionOrder
    else (if bytes_eq text (codes "predicate_order") then Some word.PredicateOrder
    else (if bytes_eq text (codes "formulas") then Some word.Formulas
    else (if bytes_eq text (codes "list") then Some word.List
    else (if bytes_eq text (codes "if") then Some word.If
    else (if bytes_eq text (codes "end_if") then Some word.EndIf
    else None)))))))))

-- an ordinary symbol that is this word; the sign `=`
abbrev pub is_word : List ℕ → Lexeme → Bool
is_word word (symbol ordinary text) = bytes_eq text word
is_word word t = false

abbrev pub is_equality : Lexeme → Bool
is_equality (symbol special text) = bytes_eq text (codes "=")
is_equality t = false

-- `interpretation`, and the words that tell a kind
abbrev pub is_interpretation : Lexeme → Bool
is_interpretation t = is_word (codes "interpretation") t

abbrev pub is_kind_word : Lexeme → Bool
is_kind_word t = is_word (codes "function") t || is_word (codes "relation") t

abbrev pub kind_said : Lexeme → Kind
kind_said t = if is_word (codes "function") t then Function else Relation

-- the token is of the class that is wanted
abbrev pub fits : Wanted → Lexeme → Bool
fits Open t = is_open t
fits Close t = is_close t
fits OpenSquare t = is_open_square t
fits CloseSquare t = is_close_square t
fits Comma t = is_comma t
fits Stop t = is_stop t
fits Symbol t = is_symbol t
fits Numeral t = is_number t
fits CommandWord t = is_some (word_of (symbol_text t))
fits CommaOrCloseSquare t = is_comma t || is_close_square t
fits SymbolOrOpenSquare t = is_symbol t || is_open_square t
fits NumeralOrClose t = is_number t || is_close t
fits TesterWord t = is_interpretation t || is_some (word_of (symbol_text t))
fits InterpretationWord t = is_interpretation t
fits Equality t = is_equality t
fits Place t = is_word (codes "_") t
fits CommaOrOpen t = is_comma t || is_open t
fits CommaOrClose t = is_comma t || is_close t
fits SymbolOrCloseSquare t = is_symbol t || is_close_square t
fits KindWord t = is_kind_word t
fits KindWordOrCloseSquare t = is_kind_word t || is_close_square t
