-- Which formulas are read again from their texts.
use Rattle.std.specs.Prelude.{◌≡◌, ℕ, Bool, true, false, List, Option, Some, None}
use Rattle.fol_core.specs.Fol.{Fol}
use Rattle.fol_core.specs.RawTree.{RawTree}
use Rattle.fol_core.specs.SymbolTable.{Symbol}
use Rattle.ladr_formulas.specs.Formulas.{Made, names_of_variables, style_of}
use Rattle.ladr_formulas.specs.declared.styles.Mode.TheVariants.{Prover}
use Rattle.ladr_lex.specs.Operators.{OperatorRow}
use Rattle.ladr_print.specs.ReadsAgain.{IsAmong, ReadsFormula}
use Rattle.ladr_reader.specs.Table.{table_of}
use Rattle.ladr_rules.specs.Attributes.{is_label}
use Rattle.proof_lines.specs.Stated.{is_too_deep}
use Rattle.proof_print.specs.LineTexts.{formula_term}

-- no label, or one
abbrev pub is_kept_label : Option RawTree → Bool
is_kept_label None = true
is_kept_label (Some t) = is_label t

-- Some text is read as the formula, with these names of its variables and this label, behind some
-- table whose symbols, and those it brings, keep their numbers in this one; its term isn't too deep
-- for a line.
pub record IsReadFormula (rows : List OperatorRow) (prolog : Bool) (table : List Symbol) (f : Fol)
    (names : List (List ℕ)) (label : Option RawTree) : Type 0 where
  pub behind : List Symbol
  pub text : List ℕ
  pub made : Made Fol
  pub reads : ReadsFormula (table_of rows) (style_of Prover prolog) behind text label made
  pub tree_is : made.tree ≡ f
  pub names_are : names_of_variables made.reading.variables ≡ names
  pub among : IsAmong made.reading table
  pub label_is : is_kept_label label ≡ true
  pub shallow : is_too_deep true (formula_term table f names label) ≡ false
