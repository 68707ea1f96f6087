-- A formula as it is read, with what it breaks.
use Rattle.std.specs.Prelude.{◌≡◌, List}
use Rattle.fol_core.specs.Fol.{Fol}
use Rattle.fol_core.specs.FormulaView.{fol_of}
use Rattle.fol_core.specs.SymbolTable.{Symbol}
use Rattle.ladr_formulas.specs.Formulas.{Made, names_of_variables}
use Rattle.ladr_formulas.specs.declared.formulas.FormulaRead.{FormulaRead}

-- the code has the formula of a reading, the names of its variables, the rows met, and behind it
-- this table
pub record IsWhole (m : Made Fol) (r : FormulaRead) (table : List Symbol) : Type 0 where
  pub formula : fol_of r.formula.shape ≡ m.tree
  pub named : r.formula.names ≡ names_of_variables m.reading.variables
  pub least : r.least ≡ m.reading.least
  pub large : r.large ≡ m.reading.large
  pub symbols : table ≡ m.reading.symbols
