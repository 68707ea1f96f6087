-- The clauses of formulas are rows of them.
use Rattle.std.proofs.Common.{◌≡◌, ℕ, suc, ◌+◌, ◌-◌, false, ◌==◌, if◌then◌else◌, length, List, [], ◌∷◌, ◌++◌, map, Option, Some, is_some, refl, sym, ap, subst, ◌∙◌, arith}
use Rattle.std.proofs.lemmas.Bool.Decides.{nat_tests}
use Rattle.std.proofs.lemmas.List.{append_assoc, length-append}
use Rattle.std.specs.List.{AllByRecursion}
use Rattle.std.specs.Option.{option_map_or}
use Rattle.clausify.specs.Clausal.{clauses_in}
use Rattle.clausify.specs.Input.{form, rows_from, all_rows}
use Rattle.clausify.specs.Skolem.{somes}
use Rattle.derivation.specs.Lines.{InputRow, said_at}
use Rattle.fol_core.specs.Literals.{ClauseTree}
use Rattle.fol_core.specs.Renumbered.{renumbered}
use Rattle.fol_problem.specs.Stated.{Said}
use Rattle.fol_core.specs.Tree.{var}
use Rattle.fol_problem.specs.declared.problem.Role.{Role}
use Rattle.fol_problem.specs.declared.problem.Role.TheVariants.{Assumption, Usable, Demodulator, Goal}
use Rattle.search_lines.proofs.Demodulators.{demodulator_rule}
use Rattle.search_lines.specs.Fitness.{IsFitAs, AreFit}
use Rattle.prover_steps.proofs.Lists.{all_append}
use Rattle.prover_steps.specs.Starting.{IsRuleOf, IsRowOfSaid, AreRowsOf}
use Rattle.substitutions.proofs.Variants.{numbers_stay}

-- the formula behind some others
said_behind : (front rest : List Said) (s : Said) → said_at (front ++ s ∷ rest) (suc (length front)) ≡ Some s
said_behind [] rest s = refl
said_behind (f ∷ front) rest s =
    let past : (suc (suc (length front)) == 1) ≡ false = grind (arith, nat_tests) in
    let less : suc (suc (length front)) - 1 ≡ suc (length front) = omega arith in
    ap (λ b. if b then Some f else said_at (front ++ s ∷ rest) (suc (suc (length front)) - 1)) past ∙ ap (said_at (front ++ s ∷ rest)) less ∙ said_behind front rest s

-- the clauses of one formula
abbrev rows_of_one : ℕ → List ClauseTree → List InputRow
rows_of_one n cs = map (λ c. (n, renumbered c)) cs

-- each is a row of a formula that is no demodulator
module _ (ss : List Said) (n : ℕ) (s : Said) (there : said_at ss n ≡ Some s) where
  row_of : (c : ClauseTree) → IsRuleOf s.role (renumbered c) → IsRowOfSaid ss (n, renumbered c)
  row_of c rule = record {
    there = ap is_some there;
    numbered = numbers_stay c;
    rule = subst (λ (o : Option Said). IsRuleOf (option_map_or (λ (x : Said). x.role) o Assumption) (renumbered c)) (sym there) rule;
  }

  rows_of : (cs : List ClauseTree) → ((c : ClauseTree) → IsRuleOf s.role (renumbered c)) → AllByRecursion (IsRowOfSaid ss) (rows_of_one n cs)
  rows_of [] rule = tt
  rows_of (c ∷ cs) rule = (row_of c (rule c), rows_of cs rule)

-- each clause of a formula is a row of it
one_rows : (ss : List Said) (symbols : List ℕ) (n k : ℕ) (s : Said) → said_at ss n ≡ Some s → IsFitAs s.role s.formula → AllByRecursion (IsRowOfSaid ss) (rows_of_one n (clauses_in symbols k [] var (form s)))
one_rows ss symbols n k s there fit = by s.role refl
  where
    at : Role → Said
    at r = record { role = r; formula = s.formula }

    by : (r : Role) → s.role ≡ r → AllByRecursion (IsRowOfSaid ss) (rows_of_one n (clauses_in symbols k [] var (form s)))
    by Assumption e = rows_of ss n s there _ (λ c. subst (λ (r : Role). IsRuleOf r (renumbered c)) (sym e) tt)
    by Usable e = rows_of ss n s there _ (λ c. subst (λ (r : Role). IsRuleOf r (renumbered c)) (sym e) tt)
    by Goal e = rows_of ss n s there _ (λ c. subst (λ (r : Role). IsRuleOf r (renumbered c)) (sym e) tt)
    by Demodulator e =
        let d = demodulator_rule symbols k s.formula (subst (λ (r : Role). IsFitAs r s.formula) e fit) in
        let is : clauses_in symbols k [] var (form s) ≡ d.0 ∷ [] = ap (λ (r : Role). clauses_in symbols k [] var (form (at r))) e ∙ d.1 in
        subst (λ (cs : List ClauseTree). AllByRecursion (IsRowOfSaid ss) (rows_of_one n cs)) (sym is)
        (row_of ss n s there d.0 (subst (λ (r : Role). IsRuleOf r (renumbered d.0)) (sym e) d.2), tt)

-- so is each clause of the formulas behind some others
rows_behind : (symbols : List ℕ) (front rest : List Said) (n k : ℕ) → n ≡ suc (length front) → AreFit rest → AreRowsOf (front ++ rest) (rows_from symbols n k rest)
rows_behind symbols front [] n k e fit = tt
rows_behind symbols front (s ∷ rest) n k e fit =
    let same : (front ++ s ∷ []) ++ rest ≡ front ++ s ∷ rest = append_assoc front (s ∷ []) rest in
    let grows : length (front ++ s ∷ []) ≡ length front + 1 = length-append front (s ∷ []) in
    let longer : n + 1 ≡ suc (length (front ++ s ∷ [])) = omega (arith, e, grows) in
    all_append (IsRowOfSaid (front ++ s ∷ rest)) (rows_of_one n (clauses_in symbols k [] var (form s))) (rows_from symbols (n + 1) (k + somes (form s)) rest)
    (one_rows (front ++ s ∷ rest) symbols n k s (ap (said_at (front ++ s ∷ rest)) e ∙ said_behind front rest s) fit.0)
    (subst (λ (ss : List Said). AreRowsOf ss (rows_from symbols (n + 1) (k + somes (form s)) rest)) same
    (rows_behind symbols (front ++ s ∷ []) rest (n + 1) (k + somes (form s)) longer fit.1))

pub all_rows_of : (symbols : List ℕ) (ss : List Said) → AreFit ss → AreRowsOf ss (all_rows symbols ss)
all_rows_of symbols ss fit = rows_behind symbols [] ss 1 0 refl fit
