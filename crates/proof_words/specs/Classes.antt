-- Which tokens may stand at a place in the words of a line.
use Rattle.std.specs.Prelude.{ℕ, Bool, true, false, not, ◌||◌, List, [], Option, Some, None, is_some, unwrap_or, if◌then◌else◌, codes}
use Rattle.std.specs.Option.{option_map_or}
use Rattle.std.specs.Str.{bytes_eq}
use Rattle.ladr_commands.specs.Wanted.{is_open, is_close, is_open_square, is_close_square, is_comma, is_stop}
use Rattle.ladr_lex.specs.Lexeme.{Lexeme, ordinary, symbol}
use Rattle.ladr_lex.specs.Numeral.{whole_number}
use Rattle.proof_words.specs.Names.{is_literal_name, place_named}
use Rattle.proof_words.specs.declared.class.TokenClass.{TokenClass}
use Rattle.proof_words.specs.declared.class.TokenClass.TheVariants.{Open, Close, OpenSquare, CloseSquare, Comma, Stop, Number, LiteralName, FirstWord, StepWord, CommaOrClose, CommaOrCloseSquare}
use Rattle.proof_words.specs.declared.names.ContentKind.{ContentKind}
use Rattle.proof_words.specs.declared.names.ContentKind.TheVariants.{Formula, Clause, Either}
use Rattle.proof_words.specs.declared.names.FirstName.{FirstName}
use Rattle.proof_words.specs.declared.names.FirstName.TheVariants as first
use Rattle.proof_words.specs.declared.names.LaterName.{LaterName}
use Rattle.proof_words.specs.declared.names.LaterName.TheVariants as later

-- the bytes of an ordinary symbol
abbrev pub word_text : Lexeme → List ℕ
word_text (symbol ordinary text) = text
word_text t = []

-- the word that a line's words begin with
abbrev pub first_name : List ℕ → Option FirstName
first_name text =
    if bytes_eq text (codes "assumption") then Some first.Assumption
    else (if bytes_eq text (codes "goal") then Some first.Goal
    else (if bytes_eq text (codes "clausify") then Some first.Clausify
    else (if bytes_eq text (codes "deny") then Some first.Deny
    else (if bytes_eq text (codes "copy") then Some first.Copy
    else (if bytes_eq text (codes "back_rewrite") then Some first.BackRewrite
    else (if bytes_eq text (codes "back_unit_del") then Some first.BackUnitDel
    else (if bytes_eq text (codes "resolve") then Some first.Resolve
    else (if bytes_eq text (codes "hyper") then Some first.Hyper
    else (if bytes_eq text (codes "ur") then Some first.Ur
    else (if bytes_eq text (codes "factor") then Some first.Factor
    else (if bytes_eq text (codes "para") then Some first.Para
    else (if bytes_eq text (codes "xx_res") then Some first.XxRes
    else None))))))))))))

-- `assumption` and `goal` are of formulas, all others of clauses
abbrev pub names_formula : FirstName → Bool
names_formula first.Assumption = true
names_formula first.Goal = true
names_formula name = false

-- whether words behind content of this kind may begin with this one
abbrev pub may_begin : ContentKind → FirstName → Bool
may_begin Formula name = names_formula name
may_begin Clause name = not (names_formula name)
may_begin Either name = true

-- a word behind the first
abbrev pub later_name : List ℕ → Option LaterName
later_name text =
    if bytes_eq text (codes "rewrite") then Some later.Rewrite
    else (if bytes_eq text (codes "flip") then Some later.Flip
    else (if bytes_eq text (codes "merge") then Some later.Merge
    else (if bytes_eq text (codes "xx") then Some later.Xx
    else (if bytes_eq text (codes "unit_del") then Some later.UnitDel
    else None))))

-- the token is of the class
abbrev pub is_of : TokenClass → Lexeme → Bool
is_of Open t = is_open t
is_of Close t = is_close t
is_of OpenSquare t = is_open_square t
is_of CloseSquare t = is_close_square t
is_of Comma t = is_comma t
is_of Stop t = is_stop t
is_of Number t = is_some (whole_number (word_text t))
is_of LiteralName t = is_literal_name (word_text t)
is_of (FirstWord kind) t = option_map_or (may_begin kind) (first_name (word_text t)) false
is_of StepWord t = is_some (later_name (word_text t))
is_of CommaOrClose t = is_comma t || is_close t
is_of CommaOrCloseSquare t = is_comma t || is_close_square t

-- what a token of a class says
abbrev pub token_number : Lexeme → ℕ
token_number t = unwrap_or (whole_number (word_text t)) 0

abbrev pub literal_place : Lexeme → ℕ
literal_place t = place_named (word_text t)

abbrev pub first_named : Lexeme → FirstName
first_named t = unwrap_or (first_name (word_text t)) first.Assumption

abbrev pub later_named : Lexeme → LaterName
later_named t = unwrap_or (later_name (word_text t)) later.Xx
