-- What has grown uses symbols as its table has them.
use Rattle.std.proofs.Common.{List, Option, ap, subst}
use Rattle.fol_core.specs.Fol.{Fol}
use Rattle.fol_core.specs.SymbolTable.{Symbol, KeepsNumbers}
use Rattle.fol_problem.specs.declared.problem.Role.{Role}
use Rattle.ladr_formulas.specs.Formulas.{formula_reading}
use Rattle.ladr_formulas.specs.declared.styles.Mode.{Mode}
use Rattle.ladr_formulas.specs.declared.styles.Style.{Style}
use Rattle.ladr_lex.specs.Operators.{OperatorRow}
use Rattle.ladr_problem.proofs.History.{IsStated, clean_of, stated_each, each_said}
use Rattle.ladr_problem.specs.Adding.{style_in}
use Rattle.ladr_problem.specs.Growth.{Grown}
use Rattle.ladr_problem.specs.Sofar.{Sofar, Listed, stated_in}
use Rattle.ladr_rules.specs.Attributes.{attributed}
use Rattle.ladr_cells.specs.Fitting.{IsUseOf, FitsTable}
use Rattle.ladr_cells.specs.Uses.{IsFormulaOf}
use Rattle.ladr_cells.proofs.Readings.{reading_fits}
use Rattle.ladr_cells.proofs.Uses.{formula_weaker}

-- behind a larger table a formula fits as before
fits_more : (a b : List Symbol) → KeepsNumbers a b → (f : Fol) → IsFormulaOf (IsUseOf a) f → IsFormulaOf (IsUseOf b) f
fits_more a b k f h = formula_weaker (IsUseOf a) (IsUseOf b) f (λ kind s n e u. (u.0, k s _ u.1)) (λ j l u. tt) h

stated_fits : (rows : List OperatorRow) (st : Style) (table : List Symbol) (role : Option Role) (l : Listed) → IsStated rows st table role l → IsFormulaOf (IsUseOf table) l.formula
stated_fits rows st table role l x =
    let made = formula_reading st x.before (attributed x.tree).formula in
    subst (IsFormulaOf (IsUseOf table)) (ap (λ (y : Listed). y.formula) x.is)
    (fits_more made.reading.symbols table x.kept made.tree (reading_fits st x.before (attributed x.tree).formula (clean_of rows st table role l x)))

-- what has grown fits
pub problem_fits : (m : Mode) (s : Sofar) → Grown m s → FitsTable (stated_in s)
problem_fits m s g =
    each_said (λ x. IsFormulaOf (IsUseOf s.symbols) x.formula) s.formulas (λ i d lt. stated_fits s.settings.operators (style_in m s) s.symbols _ _ (stated_each m s g i d lt))
