-- The numbers by which rows are told.
use Rattle.std.specs.Prelude.{ℕ}
use Rattle.derivation.specs.declared.row.Row.{Row}
use Rattle.derivation.specs.declared.row.Row.TheVariants.{NoLines, NotAbove, NoParent, NoFormula, NoClause, Misplaced, Differs, OtherClause, NotEmpty}

abbrev pub row_number : Row → ℕ
row_number NoLines = 1
row_number NotAbove = 2
row_number NoParent = 3
row_number NoFormula = 4
row_number NoClause = 5
row_number Misplaced = 6
row_number Differs = 7
row_number OtherClause = 8
row_number NotEmpty = 9
