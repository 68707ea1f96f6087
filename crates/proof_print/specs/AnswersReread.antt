-- What the texts of clauses with answers are read as.
use Rattle.std.specs.Prelude.{◌≡◌, ℕ, ◌≤◌, ◌^◌, Bool, true, false, IsTrue, nat_le, List, [], ◌∷◌, ◌++◌, length, None, codes}
use Rattle.answers.specs.AnswerTrees.{Answer, whole}
use Rattle.derivation.specs.declared.line.Content.TheVariants.{Clause}
use Rattle.fol_core.specs.Bound.{have_symbol}
use Rattle.fol_core.specs.Literals.{ClauseTree}
use Rattle.fol_core.specs.RawTree.{RawTree, depth, depth_of}
use Rattle.fol_core.specs.Renumbered.{clause_variables, renumbered}
use Rattle.fol_core.specs.SymbolTable.{Symbol}
use Rattle.ladr_formulas.specs.Formulas.{style_of}
use Rattle.ladr_formulas.specs.declared.styles.Mode.TheVariants.{Prover}
use Rattle.ladr_lex.specs.ClauseNames.{clause_variable}
use Rattle.ladr_lex.specs.Lexeme.{Lexeme}
use Rattle.ladr_print.specs.HasText.{many, AreOver}
use Rattle.ladr_print.specs.TermText.{terms_raw}
use Rattle.ladr_reader.specs.Table.{OperatorTable}
use Rattle.proof_lines.specs.Answered.{ReadAnswer}
use Rattle.proof_lines.specs.ContentTokens.{IsClauseWith}
use Rattle.proof_lines.specs.Stated.{answers_read_behind, is_deep_with, line_made, line_misuse, symbols_behind, IsContentOf}
use Rattle.proof_lines.specs.declared.answered.TheConstants.{MOST_ANSWERED_LEVELS}
use Rattle.proof_lines.specs.declared.literals.TheConstants.{MOST_ATOM_LEVELS}
use Rattle.proof_print.specs.AnsweredTexts.{answered_bytes, answered_raw}
use Rattle.proof_print.specs.Reread.{IsCutInto, IsPrintableClause}
use Rattle.proof_print.specs.Rereadable.{AreReadable, HaveFunctions}
use Rattle.words_print.specs.Sayable.{IsShort}

-- the number of the answer's goal is short, and it has a term at least; the terms are over the table,
-- whose symbols are functions and readable with these operators, and not too deep for a line
pub record IsPrintableAnswer (g : OperatorTable) (prolog : Bool) (table : List Symbol) (a : Answer) :
    Type 0 where
  pub goal : IsShort a.goal
  pub some : 1 ≤ many a.terms
  pub over : AreOver table a.terms
  pub kinds : HaveFunctions table a.terms
  pub readable : AreReadable g (style_of Prover prolog) table (λ s. have_symbol s a.terms)
  pub shallow :
      IsTrue (nat_le (depth_of (terms_raw table (clause_variable prolog) a.terms)) MOST_ATOM_LEVELS)

abbrev pub ArePrintableAnswers : OperatorTable → Bool → List Symbol → List Answer → Type 0
ArePrintableAnswers g prolog table [] = Unit {0}
ArePrintableAnswers g prolog table (a ∷ us) =
    IsPrintableAnswer g prolog table a × ArePrintableAnswers g prolog table us

-- so are a clause and its answers, which are numbered together, and aren't too many for a line
pub record IsPrintableWith (g : OperatorTable) (prolog : Bool) (table : List Symbol)
    (c : ClauseTree) (us : List Answer) : Type 0 where
  pub clause : IsPrintableClause g prolog table c
  pub answers : ArePrintableAnswers g prolog table us
  pub numbered : renumbered (whole c us) ≡ whole c us
  pub few : length (clause_variables (whole c us)) ≤ 2 ^ 64
  pub levels :
      IsTrue
      (nat_le (depth (answered_raw table (clause_variable prolog) c us)) MOST_ANSWERED_LEVELS)

-- the text of the clause with its answers, with a full stop, is cut into tokens that are read as
-- this clause and these answers, behind the table, which stays; they are neither too deep nor
-- misused
pub record ReadsAnswered (g : OperatorTable) (prolog : Bool) (problem table : List Symbol)
    (c : ClauseTree) (us : List Answer) : Type 0 where
  pub tokens : List Lexeme
  pub tree : RawTree
  pub raws : List ReadAnswer
  pub cut :
      (i : ℕ)
      → IsCutInto i (answered_bytes g table (clause_variable prolog) c us ++ codes ".") tokens
  pub is_clause : IsClauseWith g tokens tree raws
  pub shallow : is_deep_with false tree raws ≡ false
  pub unmisused : line_misuse (style_of Prover prolog) problem table false tree raws ≡ None
  pub clause :
      IsContentOf false tree (line_made (style_of Prover prolog) table false tree) (Clause c)
  pub answers : (answers_read_behind (style_of Prover prolog) table false tree raws).tree ≡ us
  pub symbols : symbols_behind (style_of Prover prolog) table false tree raws ≡ table
