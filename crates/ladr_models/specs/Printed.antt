-- What a file says of a formula, and what its printed text says.
use Rattle.std.specs.Prelude.{ℕ, List, map}
use Rattle.std.specs.List.{All}
use Rattle.fol_core.specs.SymbolTable.{Symbol}
use Rattle.ladr_formulas.specs.declared.styles.Mode.{Mode}
use Rattle.ladr_formulas.specs.declared.styles.Style.{Style}
use Rattle.ladr_lex.specs.Operators.{OperatorRow}
use Rattle.ladr_print.specs.FormulaText.{with_attribute, formula_raw}
use Rattle.ladr_print.specs.RawText.{text_of}
use Rattle.ladr_print.specs.StatesAs.{StatesAs}
use Rattle.ladr_print.specs.TermText.{name_in}
use Rattle.ladr_problem.specs.Adding.{style_in}
use Rattle.ladr_problem.specs.Sofar.{Sofar, Listed}
use Rattle.ladr_reader.specs.Table.{table_of}

-- the text of a formula with its label, as it is printed with these operators and symbols
abbrev pub listed_text : List OperatorRow → List Symbol → Listed → List ℕ
listed_text rows table l =
    text_of (table_of rows) (with_attribute l.label (formula_raw table (name_in l.names) l.formula))

-- Behind these symbols the printed text states the formula as it stands in the file, with the names
-- of its variables and its label; it brings no new symbol.
abbrev pub StatesItself : List OperatorRow → Style → List Symbol → Listed → Type 0
StatesItself rows st table l =
    StatesAs (table_of rows) st table (listed_text rows table l) l.label l.formula l.names table

-- the texts of a file's formulas, with the operators and the symbols at its end
abbrev pub formula_texts : Sofar → List (List ℕ)
formula_texts s = map (λ f. listed_text s.settings.operators s.symbols f.1) s.formulas

-- so do all formulas and hints of a file, with the operators, the style and the symbols at its end
pub record StateThemselves (m : Mode) (s : Sofar) : Type 0 where
  pub formulas :
      All (λ f. StatesItself s.settings.operators (style_in m s) s.symbols f.1) s.formulas
  pub hints :
      All (λ h. StatesItself s.settings.operators (style_in m s) s.symbols h.0) s.hints
