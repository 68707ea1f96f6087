-- Operators, and the table of those in force.
use Rattle.std.specs.Prelude.{ℕ, ◌-◌, length, take, drop, Bool, true, false, not, ◌&&◌, ◌||◌, nat_le, List, [], ◌∷◌, Option, Some, None, is_none, unwrap_or, if◌then◌else◌, codes}
use Rattle.std.specs.List.{list_all, list_any}
use Rattle.std.specs.Str.{bytes_eq}
use Prim.Native.String.{String}
use Rattle.ladr_lex.specs.Cuts.{is_quoted, is_plain_symbol}
use Rattle.ladr_lex.specs.declared.operators.Operator.{Operator}
use Rattle.ladr_lex.specs.declared.operators.OperatorKind.{OperatorKind}
use Rattle.ladr_lex.specs.declared.operators.OperatorKind.TheVariants.{Infix, InfixLeft, InfixRight, Prefix, PrefixParen, Postfix, PostfixParen}
use Rattle.ladr_lex.specs.declared.operators.SymbolType.{SymbolType}
use Rattle.ladr_lex.specs.declared.operators.SymbolType.TheVariants.{Ordinary, Operates}

-- a row of the table: a name and its operator; none, where it was taken away
pub record OperatorRow : Type 0 where
  pub name : List ℕ
  pub operator : Option Operator

-- the operator of a name, if it has one
abbrev pub operator_of : List OperatorRow → List ℕ → Option Operator
operator_of [] name = None
operator_of (r ∷ rs) name = if bytes_eq name r.name then r.operator else operator_of rs name

-- whether an operator stands before its argument
abbrev pub is_prefix : OperatorKind → Bool
is_prefix Infix = false
is_prefix InfixLeft = false
is_prefix InfixRight = false
is_prefix Prefix = true
is_prefix PrefixParen = true
is_prefix Postfix = false
is_prefix PostfixParen = false

-- an operator that stands before its argument
abbrev pub if_prefix : Option Operator → Option Operator
if_prefix None = None
if_prefix (Some o) = if is_prefix o.kind then Some o else None

-- an operator that stands between its arguments or behind its argument
abbrev pub if_after : Option Operator → Option Operator
if_after None = None
if_after (Some o) = if is_prefix o.kind then None else Some o

-- the words of the quantifiers
abbrev pub is_quantifier_word : List ℕ → Bool
is_quantifier_word name = bytes_eq (codes "all") name || bytes_eq (codes "exists") name

-- precedences are from 1 to 998
abbrev pub is_precedence : ℕ → Bool
is_precedence p = nat_le 1 p && nat_le p 998

abbrev pub has_precedence : Option Operator → Bool
has_precedence None = true
has_precedence (Some o) = is_precedence o.precedence

-- names are symbols without quotes, and no operator is named like a quantifier
abbrev pub is_lawful_row : OperatorRow → Bool
is_lawful_row r =
    is_plain_symbol r.name && not (is_quantifier_word r.name) && has_precedence r.operator

-- each row is lawful, and no two have the same name
abbrev pub are_lawful : List OperatorRow → Bool
are_lawful [] = true
are_lawful (r ∷ rs) =
    is_lawful_row r && list_all (λ s. not (bytes_eq r.name s.name)) rs && are_lawful rs

-- the rows with this operator of a name, in place of the one that it had
abbrev pub with_operator_row : List ℕ → Option Operator → List OperatorRow → List OperatorRow
with_operator_row name o [] = record { name = name; operator = o } ∷ []
with_operator_row name o (r ∷ rs) =
    if bytes_eq name r.name then record { name = r.name; operator = o } ∷ rs
    else r ∷ with_operator_row name o rs

abbrev pub row : String → ℕ → OperatorKind → OperatorRow
row name p kind =
    record { name = codes name; operator = Some (record { precedence = p; kind = kind }) }

-- the operators at the start
abbrev pub standard_rows : List OperatorRow
standard_rows =
    row "#" 810 InfixRight ∷
    row "<->" 800 Infix ∷ row "->" 800 Infix ∷ row "<-" 800 Infix ∷
    row "|" 790 InfixRight ∷
    row "&" 780 InfixRight ∷
    row "=" 700 Infix ∷ row "!=" 700 Infix ∷ row "==" 700 Infix ∷ row "<" 700 Infix
    ∷ row "<=" 700 Infix ∷ row ">" 700 Infix ∷ row ">=" 700 Infix ∷
    row "+" 500 Infix ∷ row "*" 500 Infix ∷ row "@" 500 Infix ∷ row "/" 500 Infix
    ∷ row "\\" 500 Infix ∷ row "^" 500 Infix ∷ row "v" 500 Infix ∷
    row "-" 350 Prefix ∷
    row "'" 300 Postfix ∷ []

-- the symbols whose operators, or lack of one, can't be changed
abbrev pub fixed : List (List ℕ)
fixed =
    codes "#" ∷ codes "<->" ∷ codes "->" ∷ codes "<-" ∷ codes "|" ∷ codes "&" ∷ codes "="
    ∷ codes "!=" ∷ codes "-" ∷ codes "$T" ∷ codes "$F" ∷ codes "all" ∷
    codes "exists" ∷ []

abbrev pub is_fixed : List ℕ → Bool
is_fixed name = list_any (λ f. bytes_eq f name) fixed

-- the type of a name
abbrev pub type_named : List ℕ → Option SymbolType
type_named name =
    if bytes_eq name (codes "infix") then Some (Operates Infix)
    else (if bytes_eq name (codes "infix_left") then Some (Operates InfixLeft)
    else (if bytes_eq name (codes "infix_right") then Some (Operates InfixRight)
    else (if bytes_eq name (codes "prefix") then Some (Operates Prefix)
    else (if bytes_eq name (codes "prefix_paren") then Some (Operates PrefixParen)
    else (if bytes_eq name (codes "postfix") then Some (Operates Postfix)
    else (if bytes_eq name (codes "postfix_paren") then Some (Operates PostfixParen)
    else (if bytes_eq name (codes "ordinary") then Some Ordinary
    else None)))))))

-- the operator that a symbol gets with this precedence and type
abbrev pub operator_with : ℕ → SymbolType → Option Operator
operator_with p Ordinary = None
operator_with p (Operates kind) = Some (record { precedence = p; kind = kind })

-- a symbol without its quotes, where it has some
abbrev pub unquoted : List ℕ → List ℕ
unquoted symbol = if is_quoted symbol then take (length symbol - 1 - 1) (drop 1 symbol) else symbol

-- what may not be declared: a precedence below 1 or above 998 or an unknown type (row 5); a fixed
-- symbol, or quotes round what is no ordinary or special symbol (row 6)
abbrev pub is_unfit_operator : ℕ → List ℕ → Bool
is_unfit_operator p type = not (is_precedence p) || is_none (type_named type)

abbrev pub is_unfit_symbol : List ℕ → Bool
is_unfit_symbol symbol = is_fixed (unquoted symbol) || not (is_plain_symbol (unquoted symbol))

-- the table once a symbol is declared
abbrev pub declared : ℕ → List ℕ → List ℕ → List OperatorRow → List OperatorRow
declared p type symbol rows =
    with_operator_row (unquoted symbol) (operator_with p (unwrap_or (type_named type) Ordinary))
    rows
