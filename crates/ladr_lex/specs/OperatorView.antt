-- The rows of the code's table.
use Rattle.std.specs.Prelude.{ℕ, Bool, true, false, not, ◌&&◌, ◌||◌, nat_le, List, [], ◌∷◌, Option, Some}
use Rattle.std.specs.List.{list_all}
use Rattle.std.specs.Borrow.{Bor}
use Rattle.ladr_lex.specs.Cuts.{is_plain_symbol}
use Rattle.ladr_lex.specs.Operators.{OperatorRow, is_quantifier_word, is_precedence, with_operator_row}
use Rattle.ladr_lex.specs.declared.operators.Operator.{Operator}
use Rattle.ladr_lex.specs.declared.operators.OperatorKind.{OperatorKind}

-- each name with what stands at its place
abbrev pub row_list : List (List ℕ) → List (Option Operator) → List OperatorRow
row_list [] os = []
row_list (n ∷ ns) [] = []
row_list (n ∷ ns) (o ∷ os) = record { name = n; operator = o } ∷ row_list ns os

-- whether a name begins with a small letter that isn't `v`
abbrev pub begins_usually : List ℕ → Bool
begins_usually [] = false
begins_usually (b ∷ _) = (nat_le 97 b && nat_le b 117) || (nat_le 119 b && nat_le b 122)

-- whether none of the names does
abbrev pub are_unusual : List OperatorRow → Bool
are_unusual rs = list_all (λ (r : OperatorRow). not (begins_usually r.name)) rs

-- the rows once operators are put into them one after the other
abbrev pub with_rows : List (Bor (List ℕ) × ℕ × OperatorKind) → List OperatorRow → List OperatorRow
with_rows [] rs = rs
with_rows (e ∷ es) rs =
    with_rows es (with_operator_row e.0.now (Some (record { precedence = e.1; kind = e.2 })) rs)

-- whether a table may have them
abbrev pub may_be_put : List (Bor (List ℕ) × ℕ × OperatorKind) → Bool
may_be_put [] = true
may_be_put (e ∷ es) =
    is_plain_symbol e.0.now && not (is_quantifier_word e.0.now) && is_precedence e.1
    && may_be_put es
