-- The names that clauses use for themselves, and the operators of their texts.
use Rattle.std.specs.Prelude.{◌≡◌, ℕ, ◌<◌, ◌^◌, Bool, false, ◌==◌, ◌&&◌, ◌||◌, nat_le, List, [], ◌∷◌, ◌++◌, Option, Some, None, slice_get, if◌then◌else◌, codes}
use Rattle.std.specs.Fmt.{decimal}
use Rattle.std.specs.List.{list_any}
use Rattle.ladr_lex.specs.Numeral.{is_numeral, value}
use Rattle.ladr_lex.specs.Operators.{OperatorRow, operator_of, if_prefix, is_prefix}
use Rattle.ladr_lex.specs.declared.operators.Operator.{Operator}

-- the letters of a clause's first variables, and that of the others
abbrev pub letters : Bool → List ℕ
letters prolog = if prolog then codes "ABCDE" else codes "xyzuw"

abbrev pub further_letter : Bool → List ℕ
further_letter prolog = if prolog then codes "V" else codes "v"

abbrev pub lettered : Option ℕ → List ℕ → List ℕ
lettered (Some letter) other = letter ∷ []
lettered None other = other

-- the name of a clause's variable: x, y, z, u, w, v5, v6, .., and in the style of Prolog A, B, C,
-- D, E, V5, ..
abbrev pub clause_variable : Bool → ℕ → List ℕ
clause_variable prolog n =
    lettered (slice_get (letters prolog) n) (further_letter prolog ++ decimal n)

-- whether a name is this letter with a number behind it
abbrev pub is_numbered : ℕ → List ℕ → Bool
is_numbered letter [] = false
is_numbered letter (b ∷ bs) = b == letter && is_numeral bs

-- whether a name is this letter with a number from 5 on behind it
abbrev pub is_further : List ℕ → List ℕ → Bool
is_further letter [] = false
is_further letter (b ∷ bs) = list_any (λ l. b == l) letter && is_numeral bs && nat_le 5 (value bs)

-- whether a name is one of these letters
abbrev pub is_letter : List ℕ → List ℕ → Bool
is_letter ls [] = false
is_letter ls (b ∷ []) = list_any (λ l. b == l) ls
is_letter ls (b ∷ c ∷ cs) = false

-- whether a name is that of a clause's variable
abbrev pub is_clause_variable : Bool → List ℕ → Bool
is_clause_variable prolog name =
    is_letter (letters prolog) name || is_further (further_letter prolog) name

-- whether a name is that of a clause's variable, or `c` or `f` with a number
abbrev pub is_clause_name : Bool → List ℕ → Bool
is_clause_name prolog name =
    is_clause_variable prolog name || is_numbered 99 name || is_numbered 102 name

-- what a name's operator is in the text of a clause: none where it stands before its argument and
-- the name is a clause's
abbrev pub clause_operator : Bool → List ℕ → Option Operator → Option Operator
clause_operator prolog name None = None
clause_operator prolog name (Some o) =
    if is_prefix o.kind && is_clause_name prolog name then None else Some o

-- no name of a clause's variable is an operator before its argument
abbrev pub FreesVariables : Bool → List OperatorRow → Type 0
FreesVariables prolog rows =
    (n : ℕ) → n < 2 ^ 64 → if_prefix (operator_of rows (clause_variable prolog n)) ≡ None
