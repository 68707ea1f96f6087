-- Each formula of what has grown was read of a term of few levels.
use Rattle.std.proofs.Common.{◌≡◌, ◌≤◌, List, Option, ap}
use Rattle.std.specs.List.{All}
use Rattle.fol_core.specs.RawTree.{RawTree, depth}
use Rattle.fol_core.specs.SymbolTable.{Symbol}
use Rattle.fol_problem.specs.declared.problem.Role.{Role}
use Rattle.ladr_formulas.specs.Formulas.{formula_reading}
use Rattle.ladr_formulas.specs.declared.styles.Mode.{Mode}
use Rattle.ladr_formulas.specs.declared.styles.Style.{Style}
use Rattle.ladr_lex.specs.Operators.{OperatorRow}
use Rattle.ladr_lex.specs.declared.limits.TheConstants.{MOST_LEVELS}
use Rattle.ladr_problem.proofs.History.{IsStated, stated_each}
use Rattle.ladr_problem.specs.Growth.{Grown}
use Rattle.ladr_problem.specs.Sofar.{Sofar, Listed}
use Rattle.ladr_rules.specs.Attributes.{attributed, label_of}

-- the formula and the label of a term of few levels, in some style and behind some symbols
pub record IsOfTerm (l : Listed) : Type 0 where
  pub style : Style
  pub table : List Symbol
  pub tree : RawTree
  pub short : depth tree ≤ MOST_LEVELS
  pub formula : (formula_reading style table (attributed tree).formula).tree ≡ l.formula
  pub label : label_of (attributed tree).attributes ≡ l.label

of_stated : (rows : List OperatorRow) (st : Style) (table : List Symbol) (role : Option Role) (l : Listed) → IsStated rows st table role l → IsOfTerm l
of_stated rows st table role l x = record {
  style = st;
  table = x.before;
  tree = x.tree;
  short = x.term.levels;
  formula = ap (λ (y : Listed). y.formula) x.is;
  label = ap (λ (y : Listed). y.label) x.is;
}

pub formulas_of_terms : (m : Mode) (s : Sofar) → Grown m s → All (λ f. IsOfTerm f.1) s.formulas
formulas_of_terms m s g = λ i d lt. of_stated _ _ _ _ _ (stated_each m s g i d lt)
