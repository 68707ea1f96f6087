-- Words for examples.
use Rattle.std.specs.Prelude.{List, [], ◌∷◌, codes}
use Rattle.ladr_lex.specs.Cuts.{Piece}
use Rattle.ladr_lex.specs.Operators.{OperatorRow, standard_rows, declared}
use Rattle.ladr_lex.specs.Worked.{at}
use Rattle.ladr_lex.specs.declared.token.TokenKind.TheVariants.{Stop, Ordinary}
use Rattle.ladr_reader.specs.Table.{OperatorTable, table_of}

-- the operators at the start, and `end_of_list` before its argument
abbrev pub prefix_rows : List OperatorRow
prefix_rows = declared 500 (codes "prefix") (codes "end_of_list") standard_rows

abbrev pub with_prefix : OperatorTable
with_prefix = table_of prefix_rows

-- the items of `p. q`
abbrev pub two_items : List (List Piece)
two_items =
    (at 0 Ordinary (codes "p") ∷ at 1 Stop (codes ".") ∷ []) ∷ (at 3 Ordinary (codes "q") ∷ []) ∷ []
