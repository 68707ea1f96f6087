-- The text of the formula of a term.
use Rattle.std.specs.Prelude.{ℕ, List, []}
use Rattle.fol_core.specs.RawTree.{RawTree}
use Rattle.ladr_formulas.specs.Formulas.{formula_reading, names_of_variables}
use Rattle.ladr_reader.specs.Worked.{standard}
use Rattle.ladr_formulas.specs.WorkedFormulas.{for_tester}
use Rattle.ladr_print.specs.FormulaText.{formula_raw}
use Rattle.ladr_print.specs.RawText.{text_of}
use Rattle.ladr_print.specs.TermText.{name_in}

-- with the operators at the start, where numerals name elements
abbrev pub reprinted : RawTree → List ℕ
reprinted t =
    let m = formula_reading for_tester [] t in
    text_of standard
    (formula_raw m.reading.symbols (name_in (names_of_variables m.reading.variables)) m.tree)
