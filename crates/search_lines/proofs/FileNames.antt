-- No formula of what has grown has more variables than there are numbers of them.
use Rattle.std.proofs.Common.{◌≡◌, suc, ◌≤◌, ◌^◌, List, [], ◌∷◌, length, Option, refl, ap, subst, arith}
use Rattle.std.specs.List.{All}
use Rattle.std.specs.Prelude.{codes}
use Rattle.std.specs.Str.{bytes_eq}
use Rattle.std.proofs.lemmas.Bool.{cond_both}
use Rattle.fol_core.specs.RawTree.{RawTree, named, quantified, no_raws, more_raws}
use Rattle.fol_core.specs.SymbolTable.{Symbol}
use Rattle.fol_problem.specs.declared.problem.Role.{Role}
use Rattle.ladr_formulas.specs.Formulas.{Variable, unread, formula_reading, names_of_variables}
use Rattle.ladr_formulas.specs.declared.styles.Mode.{Mode}
use Rattle.ladr_formulas.specs.declared.styles.Style.{Style}
use Rattle.ladr_lex.specs.Operators.{OperatorRow}
use Rattle.ladr_problem.proofs.History.{IsStated, stated_each}
use Rattle.ladr_problem.specs.Growth.{Grown}
use Rattle.ladr_problem.specs.Sofar.{Sofar, Listed}
use Rattle.ladr_reader.specs.Counts.{names_count}
use Rattle.ladr_rules.specs.Attributes.{Attributed, attributed}
use Rattle.search_lines.proofs.Counts.{formula_brings}

-- few names of variables
abbrev pub HasFewNames : Listed → Type 0
HasFewNames l = length l.names ≤ 2 ^ 26

pub many_names : (vs : List Variable) → length (names_of_variables vs) ≡ length vs
many_names [] = refl
many_names (v ∷ vs) = ap suc (many_names vs)

attributed_count : (t : RawTree) → names_count (attributed t).formula ≤ names_count t
attributed_count (quantified q x t) = omega arith
attributed_count (named s no_raws) = omega arith
attributed_count (named s (more_raws t no_raws)) = omega arith
attributed_count (named s (more_raws t (more_raws u no_raws))) =
    cond_both (bytes_eq s (codes "#")) _ _ (λ (a : Attributed). names_count a.formula ≤ names_count (named s (more_raws t (more_raws u no_raws)))) (λ e. omega arith) (λ e. omega arith)
attributed_count (named s (more_raws t (more_raws u (more_raws w ts)))) = omega arith

of_stated : (rows : List OperatorRow) (st : Style) (table : List Symbol) (role : Option Role) (l : Listed) → IsStated rows st table role l → HasFewNames l
of_stated rows st table role l x =
    let read = formula_reading st x.before (attributed x.tree).formula in
    let few : length (names_of_variables read.reading.variables) ≤ 2 ^ 26 =
    omega (arith, x.term.names, attributed_count x.tree, formula_brings st [] (unread x.before) (attributed x.tree).formula, many_names read.reading.variables)
    in
    subst HasFewNames x.is few

pub few_names : (m : Mode) (s : Sofar) → Grown m s → All (λ f. HasFewNames f.1) s.formulas
few_names m s g = λ i d lt. of_stated _ _ _ _ _ (stated_each m s g i d lt)
