-- What a text states.
use Rattle.std.specs.Prelude.{ℕ, List, Option}
use Rattle.fol_core.specs.Fol.{Fol}
use Rattle.fol_core.specs.RawTree.{RawTree}
use Rattle.fol_core.specs.SymbolTable.{Symbol}
pub use Rattle.ladr_reader.specs.Fixed.{KeepsFixed}
use Rattle.ladr_formulas.specs.Formulas.{formula_reading, IsReadAs}
use Rattle.ladr_formulas.specs.declared.styles.Style.{Style}
use Rattle.ladr_reader.specs.Table.{OperatorTable}
use Rattle.ladr_print.specs.FormulaText.{with_attribute}
use Rattle.ladr_print.specs.ReadsAs.{ReadsAs}

-- Behind a table of symbols the text reads as this formula, whose variables have these names, with
-- this attribute behind it if there is one; the table is then this one.
pub record StatesAs (g : OperatorTable) (st : Style) (before : List Symbol) (text : List ℕ)
    (label : Option RawTree) (f : Fol) (names : List (List ℕ)) (after : List Symbol) : Type 0 where
  pub tree : RawTree
  pub precedence : ℕ
  pub reads : ReadsAs g text (with_attribute label tree) precedence
  pub states : IsReadAs (formula_reading st before tree) f names after
