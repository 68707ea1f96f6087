-- Why tokens begin with no line, or with one that is refused.
use Rattle.std.specs.Prelude.{◌≡◌, ◌⊎◌, ℕ, suc, ◌+◌, ◌<◌, max, true, false, List, [], ◌∷◌, ◌++◌, length, take, Some, None}
use Rattle.fol_core.specs.RawTree.{RawTree}
use Rattle.fol_core.specs.SymbolTable.{Symbol}
use Rattle.ladr_formulas.specs.declared.styles.Style.{Style}
use Rattle.ladr_lex.specs.Lexeme.{Lexeme}
use Rattle.ladr_reader.specs.Reads.{Item, IsBadToken}
use Rattle.ladr_reader.specs.Table.{OperatorTable}
use Rattle.proof_lines.specs.AnswerMarks.{begins_answer, noted}
use Rattle.proof_lines.specs.Answered.{is_answered}
use Rattle.proof_lines.specs.ContentTokens.{LineTables, HasKind, content_in, behind_content_in}
use Rattle.proof_lines.specs.Lines.{LineParts, IsProofLine, IsFirstLine}
use Rattle.proof_lines.specs.Literals.{may_be_clause}
use Rattle.proof_lines.specs.Noted.{IsLineOf}
use Rattle.proof_lines.specs.Stated.{is_deep_with, line_misuse, symbols_behind}
use Rattle.proof_lines.specs.declared.fault.LineFault.{LineFault}
use Rattle.proof_lines.specs.declared.fault.LineFault.TheVariants.{Bad, Deep, Misused, Memory}
use Rattle.proof_lines.specs.declared.fault.PartFault.{PartFault}
use Rattle.proof_lines.specs.declared.fault.PartFault.TheVariants as part
use Rattle.proof_lines.specs.declared.line.LineRead.{LineRead}
use Rattle.proof_words.specs.Classes.{is_of}
use Rattle.proof_words.specs.Faults.{IsBadWordToken}
use Rattle.proof_words.specs.Spelling.{line_words}
use Rattle.proof_words.specs.Written.{states_formula}
use Rattle.proof_words.specs.declared.class.TokenClass.TheVariants.{Number}
use Rattle.proof_words.specs.declared.names.ContentKind.{ContentKind}

-- the tokens are no term, and token k is the first bad one
abbrev pub IsNoItem : OperatorTable → List Lexeme → ℕ → Type 0
IsNoItem g ts k = IsBadToken g ts k × ((t : RawTree) → ¬ Item g ts t)

-- they are no clause without answers: no term, or one that is no clause, which is told at its full
-- stop
abbrev pub IsNoPlain : OperatorTable → List Lexeme → ℕ → Type 0
IsNoPlain g ts k =
    IsNoItem g ts k
    ⊎ ((suc k ≡ length ts) × ((t : RawTree) × Item g ts t × (may_be_clause t ≡ false)))

-- and none with answers, as they are read for that
abbrev pub IsNoMarked : OperatorTable → List Lexeme → ℕ → Type 0
IsNoMarked g ts k =
    IsNoItem g (noted ts) k
    ⊎ ((suc k ≡ length ts) × ((t : RawTree) × Item g (noted ts) t × (is_answered t ≡ false)))

-- where no answer begins they aren't read for that
abbrev pub IsNoAnswered : OperatorTable → List Lexeme → ℕ → Type 0
IsNoAnswered g ts k =
    ((begins_answer ts ≡ false) × IsNoPlain g ts k) ⊎ ((begins_answer ts ≡ true) × IsNoMarked g ts k)

-- they are neither: of the two bad tokens the later one is told
pub record IsNoClause (g : OperatorTable) (ts : List Lexeme) (k : ℕ) : Type 0 where
  pub plain : ℕ
  pub answered : ℕ
  pub no_plain : IsNoPlain g ts plain
  pub no_answered : IsNoAnswered g ts answered
  pub later : k ≡ max plain answered

-- they are neither formula nor clause: of the two bad tokens the later one is told
pub record IsNoContent (g : LineTables) (ts : List Lexeme) (k : ℕ) : Type 0 where
  pub formula : ℕ
  pub clause : ℕ
  pub no_formula : IsNoItem g.formulas ts formula
  pub no_clause : IsNoClause g.clauses ts clause
  pub later : k ≡ max formula clause

-- the words behind the content are none that may stand there
pub record HasBadWords (g : LineTables) (ts : List Lexeme) (k : ℕ) : Type 0 where
  pub kind : ContentKind
  pub token : ℕ
  pub content : HasKind g (content_in ts) kind
  pub bad : IsBadWordToken (line_words kind) (behind_content_in ts) token
  pub behind : k ≡ length (content_in ts) + token

-- token k behind a line's number is bad: one of the content or of the words
abbrev pub IsBadBehindNumber : LineTables → List Lexeme → ℕ → Type 0
IsBadBehindNumber g ts k = IsNoContent g (content_in ts) k ⊎ HasBadWords g ts k

-- Token k of a line is bad: no number is there, or else the content or the words behind it are bad.
abbrev pub IsBadOfLine : LineTables → List Lexeme → ℕ → Type 0
IsBadOfLine g [] k = k ≡ 0
IsBadOfLine g (t ∷ ts) k =
    ((is_of Number t ≡ false) × (k ≡ 0))
    ⊎ ((is_of Number t ≡ true) × ((j : ℕ) × (k ≡ suc j) × IsBadBehindNumber g ts j))

-- some line begins with these tokens
pub record BeginsLine (g : LineTables) (ts : List Lexeme) : Type 0 where
  pub more : List Lexeme
  pub line : LineParts
  pub is : IsProofLine g (ts ++ more) line

-- no front of the tokens is a line
abbrev pub HoldsNoLine : LineTables → List Lexeme → Type 0
HoldsNoLine g ts =
    (front rest : List Lexeme) (l : LineParts) → ts ≡ front ++ rest → ¬ IsProofLine g front l

-- What is true of a bad token: no line begins with the tokens up to and with it, nor are tokens
-- before it a line themselves.
pub record IsBadLineToken (g : LineTables) (ts : List Lexeme) (k : ℕ) : Type 0 where
  pub here : k < length ts → ¬ BeginsLine g (take (k + 1) ts)
  pub none : HoldsNoLine g ts

-- the fault of a line by that of its parts
abbrev pub by_part : PartFault → LineFault
by_part (part.Bad k) = Bad k
by_part part.Memory = Memory

-- The tokens begin with no line, and this one is bad; or with a line that is too deep, or is
-- misused by this row at least. Nothing is said of memory.
abbrev pub IsLineFault :
    LineTables → Style → List Symbol → List Symbol → List Lexeme → LineFault → Type 0
IsLineFault g st problem table ts (Bad k) = IsBadOfLine g ts k
IsLineFault g st problem table ts Deep =
    (l : LineParts) × (n : ℕ) × IsFirstLine g ts l n
    × (is_deep_with (states_formula l.words.first) l.content l.answers ≡ true)
IsLineFault g st problem table ts (Misused misuse) =
    (l : LineParts) × (n : ℕ) × IsFirstLine g ts l n
    × (is_deep_with (states_formula l.words.first) l.content l.answers ≡ false)
    × (line_misuse st problem table (states_formula l.words.first) l.content l.answers
    ≡ Some misuse)
IsLineFault g st problem table ts Memory = Unit {0}

-- The tokens begin with a line that is neither too deep nor misused, the code has it, and behind it
-- this table.
pub record IsLineRead
    (g : LineTables) (st : Style) (problem table : List Symbol) (ts : List Lexeme) (r : LineRead)
    (after : List Symbol) : Type 0 where
  pub parts : LineParts
  pub first : IsFirstLine g ts parts r.len
  pub shallow :
      is_deep_with (states_formula parts.words.first) parts.content parts.answers ≡ false
  pub unmisused :
      line_misuse st problem table (states_formula parts.words.first) parts.content parts.answers
      ≡ None
  pub line : IsLineOf st table parts r.line
  pub symbols :
      after
      ≡ symbols_behind st table (states_formula parts.words.first) parts.content parts.answers
