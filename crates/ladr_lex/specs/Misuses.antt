-- The rows of misuse.
use Rattle.std.specs.Prelude.{ℕ, nat_lt, Option, Some, None, if◌then◌else◌}
use Rattle.ladr_lex.specs.declared.misuse.Misuse.{Misuse}
use Rattle.ladr_lex.specs.declared.misuse.Misuse.TheVariants.{UnknownFlag, UnknownParameter, UnfitValue, UnknownList, UnfitOperator, UnfitSymbol, TooLate, UnmatchedIf, TwoKinds, VariableAsFormula, QuantifierInTerm, UnfitAttribute, UnfitHint, UnfitDemodulator, UnfitRule, UnfitNumeral, UnfitInterpretation, Uncovered, VariableAmongNames}

-- the number of a misuse's row
abbrev pub misuse_row : Misuse → ℕ
misuse_row UnknownFlag = 1
misuse_row UnknownParameter = 2
misuse_row UnfitValue = 3
misuse_row UnknownList = 4
misuse_row UnfitOperator = 5
misuse_row UnfitSymbol = 6
misuse_row TooLate = 7
misuse_row UnmatchedIf = 8
misuse_row TwoKinds = 9
misuse_row VariableAsFormula = 10
misuse_row QuantifierInTerm = 11
misuse_row UnfitAttribute = 12
misuse_row UnfitHint = 13
misuse_row UnfitDemodulator = 14
misuse_row UnfitRule = 15
misuse_row UnfitNumeral = 16
misuse_row UnfitInterpretation = 17
misuse_row Uncovered = 18
misuse_row VariableAmongNames = 19

-- the one of the lesser row, of a misuse and another, if there is another
abbrev pub earlier : Misuse → Option Misuse → Misuse
earlier m None = m
earlier m (Some n) = if nat_lt (misuse_row n) (misuse_row m) then n else m
