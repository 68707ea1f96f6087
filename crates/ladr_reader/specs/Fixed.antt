-- The fixed symbols as operators.
use Rattle.std.specs.Prelude.{◌≡◌, ℕ, true, List}
use Rattle.ladr_lex.specs.Operators.{OperatorRow, operator_of, is_fixed, standard_rows}

-- the fixed symbols are the operators that they are at the start
abbrev pub KeepsFixed : List OperatorRow → Type 0
KeepsFixed rows =
    (name : List ℕ) → is_fixed name ≡ true → operator_of rows name ≡ operator_of standard_rows name
