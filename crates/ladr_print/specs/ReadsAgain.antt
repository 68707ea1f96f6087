-- What a text is read as, however many symbols there are and arguments they have.
use Rattle.std.specs.Prelude.{◌≡◌, ℕ, ◌<◌, ◌^◌, length, List, [], Option, Some, None}
use Rattle.fol_core.specs.Fol.{Fol}
use Rattle.fol_core.specs.Literals.{ClauseTree}
use Rattle.fol_core.specs.RawTree.{RawTree}
use Rattle.fol_core.specs.SymbolTable.{Symbol, KeepsNumbers}
use Rattle.fol_core.specs.Tree.{Tree}
use Rattle.ladr_print.specs.FormulaText.{with_attribute}
use Rattle.ladr_print.specs.ReadsAs.{ReadsAs}
use Rattle.ladr_formulas.specs.ClauseIn.{clause_in}
use Rattle.ladr_formulas.specs.Formulas.{Reading, Made, unread, term_of, formula_reading}
use Rattle.ladr_reader.specs.Table.{OperatorTable}
use Rattle.ladr_formulas.specs.declared.styles.Style.{Style}

-- no row of misuse was met, and the symbols keep their numbers in a table whose numbers fit
pub record IsAmong (r : Reading) (table : List Symbol) : Type 0 where
  pub clean : r.least ≡ None
  pub kept : KeepsNumbers r.symbols table
  pub few : length table < 2 ^ 64

-- the same tree, read behind a table that has all symbols
abbrev pub made_behind : {A : Type 0} → List Symbol → Made A → Made A
made_behind table m = record { tree = m.tree; reading = record m.reading { symbols = table } }

-- behind a table of symbols the text is read as a formula, with all that is read with it, and this
-- attribute stands behind it if there is one
pub record ReadsFormula (g : OperatorTable) (st : Style) (before : List Symbol) (text : List ℕ)
    (label : Option RawTree) (m : Made Fol) : Type 0 where
  pub tree : RawTree
  pub precedence : ℕ
  pub reads : ReadsAs g text (with_attribute label tree) precedence
  pub made : formula_reading st before tree ≡ m

-- a reading that met no misuse and has these symbols and so many variables
pub record IsClean (r : Reading) (symbols : List Symbol) (variables : ℕ) : Type 0 where
  pub clean : r.least ≡ None
  pub table : r.symbols ≡ symbols
  pub count : length r.variables ≡ variables

-- behind a table of symbols the text is read as this clause, with so many variables; the table is
-- then this one
pub record ReadsClause (g : OperatorTable) (st : Style) (before : List Symbol) (text : List ℕ)
    (c : ClauseTree) (after : List Symbol) (variables : ℕ) : Type 0 where
  pub tree : RawTree
  pub precedence : ℕ
  pub reads : ReadsAs g text tree precedence
  pub clause : clause_in (formula_reading st before tree).tree ≡ Some c
  pub reading : IsClean (formula_reading st before tree).reading after variables

-- behind a table of symbols the text is read as this term, with so many variables; the table is
-- then this one
pub record ReadsTerm (g : OperatorTable) (st : Style) (before : List Symbol) (text : List ℕ)
    (t : Tree) (after : List Symbol) (variables : ℕ) : Type 0 where
  pub tree : RawTree
  pub precedence : ℕ
  pub reads : ReadsAs g text tree precedence
  pub term : (term_of st [] (unread before) tree).tree ≡ t
  pub reading : IsClean (term_of st [] (unread before) tree).reading after variables
