-- The content of a line: tokens up to the first full stop, read with the operators of formulas or
-- of clauses.
use Rattle.std.specs.Prelude.{◌≡◌, ◌⊎◌, Bool, true, false, List, [], ◌∷◌, Some, if◌then◌else◌}
use Rattle.fol_core.specs.RawTree.{RawTree}
use Rattle.ladr_commands.specs.Wanted.{is_stop}
use Rattle.ladr_lex.specs.ClauseNames.{clause_operator}
use Rattle.ladr_lex.specs.Lexeme.{Lexeme}
use Rattle.ladr_lex.specs.Operators.{OperatorRow, operator_of}
use Rattle.ladr_reader.specs.Capped.{disjuncts, all_within}
use Rattle.ladr_reader.specs.Reads.{Item}
use Rattle.ladr_reader.specs.Table.{OperatorTable, table_of}
use Rattle.proof_lines.specs.AnswerMarks.{begins_answer, noted}
use Rattle.proof_lines.specs.Answered.{ReadAnswer, answers_behind, clause_part}
use Rattle.proof_lines.specs.Literals.{read_as_clause}
use Rattle.proof_lines.specs.declared.literals.TheConstants.{MOST_LITERAL_LEVELS}
use Rattle.proof_lines.specs.declared.operators.LineOperators.{LineOperators}
use Rattle.proof_words.specs.declared.names.ContentKind.{ContentKind}
use Rattle.proof_words.specs.declared.names.ContentKind.TheVariants.{Formula, Clause, Either}

-- the operators of formulas, which are the problem's, and those of clauses
pub record LineTables : Type 0 where
  pub formulas : OperatorTable
  pub clauses : OperatorTable

-- clauses have no operators that stand before their argument and are named like a clause's variable
-- or a Skolem symbol
abbrev pub line_tables : Bool → List OperatorRow → LineTables
line_tables prolog rows = record {
  formulas = table_of rows;
  clauses = record (table_of rows) {
    op = λ name. clause_operator prolog name (operator_of rows name);
  };
}

abbrev pub tables_of : LineOperators → LineTables
tables_of o = record { formulas = table_of o.formulas; clauses = table_of o.clauses }

-- the tokens are this term with its full stop, which stands as a clause and isn't too deep to be
-- looked at; one that is too deep for that
abbrev pub IsPlainItem : OperatorTable → List Lexeme → RawTree → Type 0
IsPlainItem g ts t =
    Item g ts t × (all_within MOST_LITERAL_LEVELS (disjuncts t) ≡ true)
    × (read_as_clause (disjuncts t) ≡ true)

abbrev pub IsFarItem : OperatorTable → List Lexeme → RawTree → Type 0
IsFarItem g ts t = Item g ts t × (all_within MOST_LITERAL_LEVELS (disjuncts t) ≡ false)

-- the tokens, in which an answer begins, are with marks for answers this clause with these answers
abbrev pub IsAnsweredItem : OperatorTable → List Lexeme → RawTree → List ReadAnswer → Type 0
IsAnsweredItem g ts t us =
    (u : RawTree) × Item g (noted ts) u × (answers_behind u ≡ Some us) × (clause_part u ≡ t)
    × (read_as_clause (disjuncts t) ≡ true) × (begins_answer ts ≡ true)

abbrev pub HasAnswers : OperatorTable → List Lexeme → Type 0
HasAnswers g ts = (t : RawTree) × (us : List ReadAnswer) × IsAnsweredItem g ts t us

-- The tokens are a clause with these answers; where they are one with some, they are none without.
abbrev pub IsClauseWith : OperatorTable → List Lexeme → RawTree → List ReadAnswer → Type 0
IsClauseWith g ts t [] = (IsPlainItem g ts t ⊎ IsFarItem g ts t) × ¬ HasAnswers g ts
IsClauseWith g ts t (a ∷ us) = IsAnsweredItem g ts t (a ∷ us)

-- The tokens are the content of a formula; of a clause with its answers.
abbrev pub IsContent : LineTables → Bool → List Lexeme → RawTree → List ReadAnswer → Type 0
IsContent g true ts t us = Item g.formulas ts t × (us ≡ [])
IsContent g false ts t us = IsClauseWith g.clauses ts t us

-- they are one of a formula; one of a clause
abbrev pub IsSomeContent : LineTables → Bool → List Lexeme → Type 0
IsSomeContent g by_formula ts =
    (t : RawTree) × (us : List ReadAnswer) × IsContent g by_formula ts t us

-- the tokens are content of this kind
abbrev pub HasKind : LineTables → List Lexeme → ContentKind → Type 0
HasKind g ts Formula = IsSomeContent g true ts × ¬ IsSomeContent g false ts
HasKind g ts Clause = ¬ IsSomeContent g true ts × IsSomeContent g false ts
HasKind g ts Either = IsSomeContent g true ts × IsSomeContent g false ts

-- the tokens up to the first full stop, and those behind it
abbrev pub content_in : List Lexeme → List Lexeme
content_in [] = []
content_in (t ∷ ts) = if is_stop t then t ∷ [] else t ∷ content_in ts

abbrev pub behind_content_in : List Lexeme → List Lexeme
behind_content_in [] = []
behind_content_in (t ∷ ts) = if is_stop t then ts else behind_content_in ts
