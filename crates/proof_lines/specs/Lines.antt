-- Lines of a proof as tokens.
use Rattle.std.specs.Prelude.{◌≡◌, ℕ, ◌≤◌, true, List, ◌∷◌, ◌++◌, length, take}
use Rattle.fol_core.specs.RawTree.{RawTree}
use Rattle.ladr_lex.specs.Lexeme.{Lexeme}
use Rattle.proof_lines.specs.Answered.{ReadAnswer}
use Rattle.proof_lines.specs.ContentTokens.{LineTables, IsContent}
use Rattle.proof_words.specs.Classes.{is_of, token_number}
use Rattle.proof_words.specs.Spelling.{SaysWords, line_words}
use Rattle.proof_words.specs.Written.{Written, states_formula}
use Rattle.proof_words.specs.declared.class.TokenClass.TheVariants.{Number}
use Rattle.proof_words.specs.declared.names.ContentKind.TheVariants.{Either}

-- what a line has: its number, its content as a term, the answers behind that, and its words
pub record LineParts : Type 0 where
  pub number : ℕ
  pub content : RawTree
  pub answers : List ReadAnswer
  pub words : Written

-- The tokens are a line: a number, content with its full stop, and words with theirs.
pub record IsProofLine (g : LineTables) (ts : List Lexeme) (l : LineParts) : Type 0 where
  pub number : Lexeme
  pub item : List Lexeme
  pub words : List Lexeme
  pub split : ts ≡ number ∷ (item ++ words)
  pub is_number : is_of Number number ≡ true
  pub number_is : l.number ≡ token_number number
  pub content : IsContent g (states_formula l.words.first) item l.content l.answers
  pub says : SaysWords (line_words Either) words l.words

-- the first n tokens are this line
abbrev pub IsFirstLine : LineTables → List Lexeme → LineParts → ℕ → Type 0
IsFirstLine g ts l n = (n ≤ length ts) × IsProofLine g (take n ts) l
