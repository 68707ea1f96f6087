-- What has grown has demodulators that are demodulators, and weights that are at least 1.
use Rattle.std.proofs.Common.{◌≡◌, ℕ, zero, suc, ◌≤◌, ◌==◌, Bool, true, false, not, ◌&&◌, if◌then◌else◌, List, [], ◌∷◌, Option, Some, None, refl, sym, subst, arith}
use Rattle.std.specs.Str.{bytes_eq}
use Rattle.std.specs.Prelude.{codes}
use Rattle.std.proofs.lemmas.Bool.{false≢true}
use Rattle.fol_core.specs.Fol.{Fol}
use Rattle.fol_core.specs.RawTree.{RawTree, named, quantified, no_raws, more_raws}
use Rattle.fol_core.specs.SymbolTable.{Symbol}
use Rattle.fol_problem.specs.declared.problem.Role.{Role}
use Rattle.fol_problem.specs.declared.problem.Role.TheVariants.{Assumption, Usable, Demodulator, Goal}
use Rattle.ladr_formulas.specs.declared.styles.Mode.{Mode}
use Rattle.ladr_formulas.specs.Formulas.{formula_reading}
use Rattle.ladr_formulas.specs.declared.styles.Style.{Style}
use Rattle.ladr_lex.specs.Operators.{OperatorRow}
use Rattle.ladr_lex.specs.declared.misuse.Misuse.{Misuse}
use Rattle.ladr_lex.specs.declared.misuse.Misuse.TheVariants.{UnfitAttribute, UnfitDemodulator}
use Rattle.ladr_problem.proofs.History.{IsStated, stated_each, each_said}
use Rattle.ladr_problem.specs.Adding.{role_of, least_misuse, met}
use Rattle.ladr_problem.specs.Growth.{Grown, nothing, changes, states, weighs, weighs_name}
use Rattle.ladr_problem.specs.Sofar.{Sofar, Listed}
use Rattle.ladr_rules.specs.Attributes.{attributed, has_unfit_weight}
use Rattle.ladr_rules.specs.Rules.{symbol_weight, kbo_sides, kbo_rule}
use Rattle.ladr_rules.specs.Shapes.{is_demodulator}
use Rattle.ladr_settings.specs.declared.lists.FormulaList.{FormulaList}
use Rattle.ladr_settings.specs.declared.lists.FormulaList.TheVariants.{Assumptions, Demodulators, Goals, Hints}
use Rattle.ladr_settings.specs.declared.lists.FormulaList.TheVariants as lists
use Rattle.prover_steps.proofs.Lists.{all_append}
use Rattle.search_lines.specs.Fitness.{IsFitAs, AreHeavy, IsFitFile}

-- a number from 1 on
number_heavy : (f : List ℕ) (n : ℕ) (sign : Bool) (r : List ℕ × ℕ) → (if sign && not (n == 0) then Some (f, n) else None) ≡ Some r → 1 ≤ r.1
number_heavy f n sign r e = by sign (n == 0) refl e
  where
    some_is : {A : Type 0} (a b : A) → Some a ≡ Some b → a ≡ b
    some_is a b e = cc

    by : (a b : Bool) → (n == 0) ≡ b → (if a && not b then Some (f, n) else None) ≡ Some r → 1 ≤ r.1
    by false b z e = absurd cc
    by true true z e = absurd cc
    by true false z e = subst (λ (q : List ℕ × ℕ). 1 ≤ q.1) (some_is (f, n) r e) (positive n z)
      where
        positive : (k : ℕ) → (k == 0) ≡ false → 1 ≤ k
        positive zero z = absurd (false≢true (sym z))
        positive (suc k) z = omega arith

sides_heavy : (s : List ℕ) (t u : RawTree) (r : List ℕ × ℕ) → kbo_sides s t u ≡ Some r → 1 ≤ r.1
sides_heavy s (named f no_raws) u r e = number_heavy f (symbol_weight u) (bytes_eq s (codes "=")) r e
sides_heavy s (named f (more_raws t ts)) u r e = absurd cc
sides_heavy s (quantified q x t) u r e = absurd cc

kbo_heavy : (t : RawTree) (r : List ℕ × ℕ) → kbo_rule t ≡ Some r → 1 ≤ r.1
kbo_heavy (quantified q x t) r e = absurd cc
kbo_heavy (named s no_raws) r e = absurd cc
kbo_heavy (named s (more_raws t no_raws)) r e = absurd cc
kbo_heavy (named s (more_raws t (more_raws u no_raws))) r e = sides_heavy s t u r e
kbo_heavy (named s (more_raws t (more_raws u (more_raws v ts)))) r e = absurd cc

-- what was listed without misuse is fit
listed_fit : (f : Fol) (least : Option Misuse) → met (not (is_demodulator f)) UnfitDemodulator least ≡ None → is_demodulator f ≡ true
listed_fit f least h = by (is_demodulator f) h
  where
    by : (b : Bool) → met (not b) UnfitDemodulator least ≡ None → b ≡ true
    by true h = refl
    by false h = absurd cc

demodulator_fit : (list : FormulaList) (unfit : Bool) (f : Fol) (least : Option Misuse) → role_of list ≡ Some Demodulator → least_misuse list unfit f least ≡ None → is_demodulator f ≡ true
demodulator_fit Assumptions unfit f least e h = absurd cc
demodulator_fit lists.Usable unfit f least e h = absurd cc
demodulator_fit Demodulators unfit f least e h = listed_fit f (met unfit UnfitAttribute least) h
demodulator_fit Goals unfit f least e h = absurd cc
demodulator_fit Hints unfit f least e h = absurd cc

stated_fit : (rows : List OperatorRow) (st : Style) (table : List Symbol) (role : Role) (l : Listed) → IsStated rows st table (Some role) l → IsFitAs role l.formula
stated_fit rows st table Assumption l x = tt
stated_fit rows st table Usable l x = tt
stated_fit rows st table Demodulator l x =
    demodulator_fit x.list (has_unfit_weight (attributed x.tree).attributes) l.formula (formula_reading st x.before (attributed x.tree).formula).reading.least x.listed x.fit
stated_fit rows st table Goal l x = tt

heavy : (m : Mode) (s : Sofar) → Grown m s → AreHeavy s.kbo_weights
heavy m _ nothing = tt
heavy m _ (changes {s} t g f ranged) = heavy m s g
heavy m _ (states {s} list byte t g listed of none) = heavy m s g
heavy m _ (weighs {s} t r g of) = heavy m s g
heavy m _ (weighs_name {s} t r g e once) = all_append (λ (w : List ℕ × ℕ). 1 ≤ w.1) s.kbo_weights (r ∷ []) (heavy m s g) (kbo_heavy t r e, tt)

pub grown_fit : (m : Mode) (s : Sofar) → Grown m s → IsFitFile s
grown_fit m s g = record {
  formulas = each_said (λ x. IsFitAs x.role x.formula) s.formulas (λ i d lt. stated_fit _ _ _ _ _ (stated_each m s g i d lt));
  weights = heavy m s g;
}
