-- How what is read grows, whatever the text that says it: settings change, formulas of terms are
-- listed, rules of weights are added. Each property of problems is an induction over these.
use Rattle.std.specs.Prelude.{◌≡◌, ℕ, ◌≤◌, ◌^◌, true, false, List, [], ◌∷◌, ◌++◌, length, None, Some}
use Rattle.fol_core.specs.KboRows.{is_weighed}
use Rattle.fol_core.specs.RawTree.{RawTree, depth}
use Rattle.fol_core.specs.SymbolTable.{Symbol}
use Rattle.ladr_reader.specs.Counts.{names_count}
use Rattle.ladr_formulas.specs.Formulas.{formula_reading}
use Rattle.ladr_formulas.specs.declared.styles.Mode.{Mode}
use Rattle.ladr_formulas.specs.declared.styles.Style.{Style}
use Rattle.ladr_lex.specs.Operators.{OperatorRow}
use Rattle.ladr_lex.specs.declared.limits.TheConstants.{MOST_LEVELS, MOST_SYMBOLS}
use Rattle.ladr_options.specs.Ranges.{AreInRange}
use Rattle.ladr_problem.specs.Adding.{style_in, formula_made, least_misuse, with_formula}
use Rattle.ladr_problem.specs.Sofar.{Sofar, nothing_read}
use Rattle.ladr_reader.specs.HasText.{HasText}
use Rattle.ladr_reader.specs.Table.{table_of}
use Rattle.ladr_rules.specs.Attributes.{attributed, has_unfit_weight}
use Rattle.ladr_rules.specs.Rules.{Sides, rule_made, shaped_sides, kbo_rule}
use Rattle.ladr_settings.specs.Following.{Follows}
use Rattle.ladr_settings.specs.declared.lists.FormulaList.{FormulaList}
use Rattle.ladr_settings.specs.declared.settings.Settings.{Settings}

-- A term that a formula may be read of, with these operators, in this style and behind these
-- symbols: it can be printed, and it and what is read keep the limits of the language. There are
-- fewer names in it than numbers of variables.
pub record IsFormulaTerm (rows : List OperatorRow) (st : Style) (before : List Symbol) (t : RawTree)
    : Type 0 where
  pub text : HasText (table_of rows) t
  pub levels : depth t ≤ MOST_LEVELS
  pub names : names_count t ≤ 2 ^ 26
  pub fits : (formula_reading st before (attributed t).formula).reading.large ≡ false
  pub few :
      length (formula_reading st before (attributed t).formula).reading.symbols ≤ MOST_SYMBOLS

-- a rule of weights, the same way
pub record IsRuleTerm (rows : List OperatorRow) (st : Style) (before : List Symbol) (t : RawTree)
    (r : Sides) : Type 0 where
  pub text : HasText (table_of rows) t
  pub shaped : shaped_sides st t ≡ Some r
  pub clean : (rule_made st before r).reading.least ≡ None
  pub fits : (rule_made st before r).reading.large ≡ false
  pub few : length (rule_made st before r).reading.symbols ≤ MOST_SYMBOLS

-- What is read so far has grown so from nothing. Formulas are listed where a list was opened, and
-- without misuse.
pub data Grown (m : Mode) : Sofar → Type 0 where
  nothing : Grown m nothing_read
  changes :
      {s : Sofar} (t : Settings) → Grown m s → Follows m s.settings t → AreInRange t.options →
      Grown m (record s { settings = t })
  states :
      {s : Sofar} (list : FormulaList) (byte : ℕ) (t : RawTree) → Grown m s →
      s.settings.listed ≡ true →
      IsFormulaTerm s.settings.operators (style_in m s) s.symbols t →
      least_misuse list (has_unfit_weight (attributed t).attributes) (formula_made m s t).tree
      (formula_made m s t).reading.least ≡ None →
      Grown m (with_formula list byte t (formula_made m s t) s)
  weighs :
      {s : Sofar} (t : RawTree) (r : Sides) → Grown m s →
      IsRuleTerm s.settings.operators (style_in m s) s.symbols t r →
      Grown m (record s {
        symbols = (rule_made (style_in m s) s.symbols r).reading.symbols;
        weights = s.weights ++ (rule_made (style_in m s) s.symbols r).tree ∷ [];
      })
  weighs_name :
      {s : Sofar} (t : RawTree) (r : List ℕ × ℕ) → Grown m s → kbo_rule t ≡ Some r →
      is_weighed r.0 s.kbo_weights ≡ false →
      Grown m (record s { kbo_weights = s.kbo_weights ++ r ∷ [] })
