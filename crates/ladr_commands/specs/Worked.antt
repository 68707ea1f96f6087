-- Commands worked out.
use Rattle.std.specs.Prelude.{List, [], ◌∷◌, codes}
use Prim.Native.String.{String}
use Rattle.ladr_lex.specs.Lexeme.{Lexeme, ordinary, quoted, special, open_paren, close_paren, open_square, close_square, comma, full_stop, symbol}

abbrev pub word : String → Lexeme
word text = symbol ordinary (codes text)

abbrev pub dash : Lexeme
dash = symbol special (codes "-")

-- `set(auto).`
abbrev pub flag : List Lexeme
flag = word "set" ∷ open_paren ∷ word "auto" ∷ close_paren ∷ full_stop ∷ []

-- `assign(max_weight, -1).`
abbrev pub negative : List Lexeme
negative =
    word "assign" ∷ open_paren ∷ word "max_weight" ∷ comma ∷ dash ∷ word "1" ∷ close_paren
    ∷ full_stop ∷ []

-- `assign(order, -).`
abbrev pub sign : List Lexeme
sign = word "assign" ∷ open_paren ∷ word "order" ∷ comma ∷ dash ∷ close_paren ∷ full_stop ∷ []

-- `assign(max_weight, - 07).`
abbrev pub zeros : List Lexeme
zeros =
    word "assign" ∷ open_paren ∷ word "max_weight" ∷ comma ∷ dash ∷ word "07" ∷ close_paren
    ∷ full_stop ∷ []

-- `op(700, infix_left, ["@@", f]).`
abbrev pub operators : List Lexeme
operators =
    word "op" ∷ open_paren ∷ word "700" ∷ comma ∷ word "infix_left" ∷ comma ∷ open_square
    ∷ symbol quoted (codes "\"@@\"") ∷ comma ∷ word "f" ∷ close_square ∷ close_paren
    ∷ full_stop ∷ []

-- `function_order([]).`
abbrev pub empty_list : List Lexeme
empty_list =
    word "function_order" ∷ open_paren ∷ open_square ∷ close_square ∷ close_paren ∷ full_stop ∷ []

-- `include(file).`
abbrev pub unknown : List Lexeme
unknown = word "include" ∷ open_paren ∷ word "file" ∷ close_paren ∷ full_stop ∷ []

-- `end_if`, where the input ends
abbrev pub cut_off : List Lexeme
cut_off = word "end_if" ∷ []

-- `interpretation(2, [number = 1], [function(f(_), [1,0])]).`
abbrev pub exchange : List Lexeme
exchange =
    word "interpretation" ∷ open_paren ∷ word "2" ∷ comma ∷ open_square ∷ word "number"
    ∷ symbol special (codes "=") ∷ word "1" ∷ close_square ∷ comma ∷ open_square
    ∷ word "function" ∷ open_paren ∷ word "f" ∷ open_paren ∷ word "_" ∷ close_paren ∷ comma
    ∷ open_square ∷ word "1" ∷ comma ∷ word "0" ∷ close_square ∷ close_paren
    ∷ close_square ∷ close_paren ∷ full_stop ∷ []

-- `function_order([c, "g"]).`
abbrev pub order : List Lexeme
order =
    word "function_order" ∷ open_paren ∷ open_square ∷ word "c" ∷ comma
    ∷ symbol quoted (codes "\"g\"") ∷ close_square ∷ close_paren ∷ full_stop ∷ []

-- `interpretation(1, [], []).`
abbrev pub no_entries : List Lexeme
no_entries =
    word "interpretation" ∷ open_paren ∷ word "1" ∷ comma ∷ open_square ∷ close_square ∷ comma
    ∷ open_square ∷ close_square ∷ close_paren ∷ full_stop ∷ []
