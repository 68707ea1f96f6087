-- What clause a text states.
use Rattle.std.specs.Prelude.{◌≡◌, ℕ, List, Some, None}
use Rattle.fol_core.specs.Fol.{Fol}
use Rattle.fol_core.specs.Literals.{ClauseTree}
use Rattle.fol_core.specs.SymbolTable.{Symbol}
pub use Rattle.ladr_lex.specs.ClauseNames.{FreesVariables}
pub use Rattle.ladr_formulas.specs.ClauseIn.{atom_in, literal_in, prepended, literals_in, clause_in}
use Rattle.ladr_reader.specs.Table.{OperatorTable}
use Rattle.ladr_formulas.specs.declared.styles.Style.{Style}
use Rattle.ladr_print.specs.StatesAs.{StatesAs}

-- behind a table of symbols the text reads as a formula that is this clause; the table is then this
-- one
pub record StatesClause (g : OperatorTable) (st : Style) (before : List Symbol) (text : List ℕ)
    (c : ClauseTree) (after : List Symbol) : Type 0 where
  pub formula : Fol
  pub names : List (List ℕ)
  pub states : StatesAs g st before text None formula names after
  pub clause : clause_in formula ≡ Some c
