-- Lines to work out.
use Rattle.std.specs.Prelude.{ℕ, List, [], ◌∷◌}
use Prim.Native.String.{String}
use Rattle.fol_core.specs.RawTree.{RawTree, RawTrees, no_raws, more_raws}
use Rattle.ladr_lex.specs.Operators.{OperatorRow, row, standard_rows}
use Rattle.ladr_lex.specs.declared.operators.OperatorKind.TheVariants.{Prefix}
use Rattle.ladr_reader.specs.Reads.{Item}
use Rattle.ladr_reader.specs.Table.{table_of}
use Rattle.ladr_reader.specs.Worked.{constant, binary}
use Rattle.proof_lines.specs.AnswerMarks.{noted}
use Rattle.proof_lines.specs.ContentTokens.{LineTables}
use Rattle.proof_lines.specs.Lines.{LineParts}
use Rattle.proof_words.specs.Worked.{tokens_of}
use Rattle.proof_words.specs.Written.{Written}

-- the operators at the start, which formulas and clauses share
abbrev pub worked_tables : LineTables
worked_tables = record { formulas = table_of standard_rows; clauses = table_of standard_rows }

abbrev pub parts : ℕ → RawTree → Written → LineParts
parts number content words =
    record { number = number; content = content; answers = []; words = words }

-- the operators at the start, and two before their argument: the word of an answer, and a number
abbrev pub words_before : List OperatorRow
words_before = row "answer" 300 Prefix ∷ row "2" 300 Prefix ∷ standard_rows

-- the term of tokens with marks for answers
abbrev pub IsNotedItem : List OperatorRow → String → RawTree → Type 0
IsNotedItem rows text t = Item (table_of rows) (noted (tokens_of text)) t

-- `"answer"("2",t)`
abbrev pub answer_two : RawTree → RawTree
answer_two t = binary "\"answer\"" (constant "\"2\"") t

abbrev pub two_terms : RawTree → RawTree → RawTrees
two_terms t u = more_raws t (more_raws u no_raws)
