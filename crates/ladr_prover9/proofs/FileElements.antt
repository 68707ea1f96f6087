-- No formula of what has grown for the prover names an element.
use Rattle.std.proofs.Common.{◌≡◌, ℕ, Bool, false, List, Option, ap, subst}
use Rattle.std.specs.List.{AllByRecursion}
use Rattle.fol_core.specs.Fol.{Fol}
use Rattle.fol_core.specs.Occurs.{names}
use Rattle.fol_core.specs.RawTree.{RawTree}
use Rattle.fol_core.specs.SymbolTable.{Symbol}
use Rattle.fol_problem.specs.declared.problem.Role.{Role}
use Rattle.ladr_formulas.specs.Formulas.{formula_reading, style_of}
use Rattle.ladr_formulas.specs.declared.styles.Mode.TheVariants.{Prover}
use Rattle.ladr_lex.specs.Operators.{OperatorRow}
use Rattle.ladr_problem.proofs.History.{IsStated, stated_each, each_said}
use Rattle.ladr_problem.specs.Growth.{Grown}
use Rattle.ladr_problem.specs.Sofar.{Sofar, Listed, said_in}
use Rattle.ladr_rules.specs.Attributes.{attributed}

module _ (law : (prolog : Bool) (table : List Symbol) (t : RawTree) (k : ℕ) → names k (formula_reading (style_of Prover prolog) table t).tree ≡ false) (k : ℕ) where
  stated_none : (rows : List OperatorRow) (prolog : Bool) (table : List Symbol) (role : Option Role) (l : Listed) → IsStated rows (style_of Prover prolog) table role l → names k l.formula ≡ false
  stated_none rows prolog table role l x = subst (λ (f : Fol). names k f ≡ false) (ap (λ (y : Listed). y.formula) x.is) (law prolog x.before (attributed x.tree).formula k)

  pub grown_none : (s : Sofar) → Grown Prover s → AllByRecursion (λ x. names k x.formula ≡ false) (said_in s)
  grown_none s g = each_said (λ x. names k x.formula ≡ false) s.formulas (λ i d lt. stated_none _ s.settings.options.prolog_style_variables _ _ _ (stated_each Prover s g i d lt))
