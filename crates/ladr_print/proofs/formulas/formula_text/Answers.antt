use Rattle.std.proofs.Common.{◌≡◌, List, ℕ, sym, subst, ◌∙◌}
use Rattle.std.specs.Option.{option_map}
use Rattle.fol_core.specs.FormulaView.{fol_of}
use Rattle.fol_core.specs.RawView.{raw_of}
use Rattle.ladr_reader.specs.Table.{table_of}
use Rattle.ladr_formulas.specs.Formulas.{names_of_variables}
use Rattle.ladr_print.specs.FormulaText.{formula_raw, with_attribute}
use Rattle.ladr_print.specs.RawText.{text_of}
use Rattle.ladr_print.specs.ReadsAgain.{made_behind, ReadsFormula}
use Rattle.ladr_print.specs.TermText.{name_in}
use Rattle.ladr_print.specs.StatesAs.{StatesAs}
use Rattle.ladr_print.proofs.Stating.{states_back, formula_again}
use Rattle.ladr_print.proofs.formulas.formula_text.Goals as goal

pub returns-clause-back : goal.returns-clause-back
returns-clause-back c =
    λ st before other k s.
    let rows = c.args.ops.now in
    let label = option_map (λ l. raw_of l.now) c.args.label in
    let f = fol_of c.args.formula.now.shape in
    let names = c.args.formula.now.names in
    let after = c.args.symbols.now in
    subst (λ (l : List ℕ). StatesAs (table_of rows) st before l label f names after) (sym c.in_ok-text.ensures)
    (states_back rows st before other label f names after c.rows_are_lawful.ensures k s)

pub returns-clause-again : goal.returns-clause-again
returns-clause-again c =
    λ st before other m k f names among s.
    let rows = c.args.ops.now in
    let label = option_map (λ l. raw_of l.now) c.args.label in
    let T = c.args.symbols.now in
    let text : c.in_ok-text.text.items ≡ text_of (table_of rows) (with_attribute label (formula_raw T (name_in (names_of_variables m.reading.variables)) m.tree)) =
    c.in_ok-text.ensures ∙ (λ i. text_of (table_of rows) (with_attribute label (formula_raw T (name_in (sym names i)) (sym f i))))
    in
    subst (λ (l : List ℕ). ReadsFormula (table_of rows) st before l label m × ReadsFormula (table_of rows) st T l label (made_behind T m)) (sym text)
    (formula_again rows st before other label m T c.rows_are_lawful.ensures k s among)
