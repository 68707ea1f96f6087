-- The formula of names holds just where their values differ pairwise.
use Rattle.std.proofs.Common.{◌≡◌, ℕ, zero, suc, ◌/◌, ◌≤◌, Bool, true, false, List, [], ◌∷◌, map, length, take, drop, Option, Some, None, unwrap_or, if◌then◌else◌, refl, sym, ap, ap₂, ◌∙◌, subst, arith, codes}
use Rattle.std.specs.Prelude.{◌↔◌, not, ◌||◌}
use Rattle.std.specs.List.{AllByRecursion, list_any}
use Rattle.std.specs.Str.{bytes_eq}
use Rattle.std.proofs.lemmas.Bool.{false≢true, and_parts}
use Rattle.fol_core.specs.Fol.{Fol, verum, equal, negation, conjunction}
use Rattle.fol_core.specs.Meaning.{Meaning}
use Rattle.fol_core.specs.RawTree.{RawTree, named, quantified, RawTrees, no_raws, more_raws}
use Rattle.fol_core.specs.SymbolTable.{Symbol, symbol, number_of, is_clash}
use Rattle.fol_core.specs.Tree.{Tree, elem, app, Trees, none}
use Rattle.fol_core.specs.Truth.{Assignment, Holds, value_of}
use Rattle.fol_core.specs.declared.symbols.Kind.TheVariants.{Function}
use Rattle.ladr_distinct.specs.Different.{term_named, AreDifferent}
use Rattle.ladr_distinct.specs.Formula.{alone, differ, all_differ, halved, distinct_formula}
use Rattle.ladr_distinct.proofs.Halves.{first_half, second_half, both_halves, fewer_first, fewer_second}
use Rattle.ladr_distinct.proofs.Pairs.{each_pair, pairs_differ, differ_pairs}
use Rattle.ladr_formulas.specs.declared.styles.Style.{Style}
use Rattle.ladr_formulas.specs.Formulas.{Variable, Bound, is_variable, bound_number, is_free_name, is_element, arity_of}
use Rattle.ladr_formulas.specs.Means.{number_as, is_function, is_relation, MeansTerm, bound_variable, free_variable, element, applied, MeanTerms, no_terms, more_terms, Means, for_all, there_is, truth, falsity, denied, both, either, if_then, then_if, if_and_only_if, equals, differs, related, between}
use Rattle.ladr_lex.specs.Numeral.{limited_number_of}

-- the name of a term, and its arguments
abbrev name_at : RawTree → List ℕ
name_at (named s ts) = s
name_at (quantified q x t) = []

abbrev parts_at : RawTree → RawTrees
parts_at (named s ts) = ts
parts_at (quantified q x t) = no_raws

abbrev first_of : RawTrees → RawTree
first_of no_raws = named [] no_raws
first_of (more_raws t ts) = t

abbrev rest_of : RawTrees → RawTrees
rest_of no_raws = no_raws
rest_of (more_raws t ts) = ts

abbrev first_at : RawTree → RawTree
first_at t = first_of (parts_at t)

abbrev second_at : RawTree → RawTree
second_at t = first_of (rest_of (parts_at t))

-- terms of two names aren't the same
no_such : (s : List ℕ) (r t : RawTree) → r ≡ t → bytes_eq (name_at r) s ≡ false → bytes_eq (name_at t) s ≡ true → ⊥
no_such s r t e here there = false≢true (sym here ∙ ap (λ u. bytes_eq (name_at u) s) e ∙ there)

module _ (st : Style) (table : List Symbol) (variables : List Variable) where
  -- what `$T` means
  truth_is : {scope : List Bound} {t : RawTree} {f : Fol} → Means st table variables scope t f → t ≡ alone (codes "$T") → f ≡ verum
  truth_is (for_all at m) e = absurd (no_such (codes "$T") _ _ e refl refl)
  truth_is (there_is at m) e = absurd (no_such (codes "$T") _ _ e refl refl)
  truth_is (truth unbound) e = refl
  truth_is (falsity unbound) e = absurd (no_such (codes "$T") _ _ e refl refl)
  truth_is (denied m) e = absurd (no_such (codes "$T") _ _ e refl refl)
  truth_is (both a b) e = absurd (no_such (codes "$T") _ _ e refl refl)
  truth_is (either a b) e = absurd (no_such (codes "$T") _ _ e refl refl)
  truth_is (if_then a b) e = absurd (no_such (codes "$T") _ _ e refl refl)
  truth_is (then_if a b) e = absurd (no_such (codes "$T") _ _ e refl refl)
  truth_is (if_and_only_if a b) e = absurd (no_such (codes "$T") _ _ e refl refl)
  truth_is (equals a b) e = absurd (no_such (codes "$T") _ _ e refl refl)
  truth_is (differs a b) e = absurd (no_such (codes "$T") _ _ e refl refl)
  truth_is (related {scope} {name} {ts} is unbound at all) e =
      let n : name ≡ codes "$T" = ap name_at e in
      let none_there : ts ≡ no_raws = ap parts_at e in
      absurd (never (is_variable st scope (codes "$T")) (sym (ap₂ (λ s us. is_relation st scope s us) n none_there) ∙ is))
    where
      never : (b : Bool) → not (b || bytes_eq (codes "$T") (codes "$T") || bytes_eq (codes "$T") (codes "$F")) ≡ true → ⊥
      never true e = false≢true e
      never false e = false≢true e

  -- what two joined terms mean
  record IsBoth (scope : List Bound) (t u : RawTree) (f : Fol) : Type 0 where
    left : Fol
    right : Fol
    is : f ≡ conjunction left right
    first : Means st table variables scope t left
    second : Means st table variables scope u right

  both_is : {scope : List Bound} {r : RawTree} {f : Fol} → Means st table variables scope r f → (t u : RawTree) → r ≡ between (codes "&") t u → IsBoth scope t u f
  both_is (for_all at m) t u e = absurd (no_such (codes "&") _ _ e refl refl)
  both_is (there_is at m) t u e = absurd (no_such (codes "&") _ _ e refl refl)
  both_is (truth unbound) t u e = absurd (no_such (codes "&") _ _ e refl refl)
  both_is (falsity unbound) t u e = absurd (no_such (codes "&") _ _ e refl refl)
  both_is (denied m) t u e = absurd (no_such (codes "&") _ _ e refl refl)
  both_is (both {scope} {t = a} {u = b} {f} {g} x y) t u e =
      let one : a ≡ t = ap first_at e in
      let two : b ≡ u = ap second_at e in
      record {
        left = f;
        right = g;
        is = refl;
        first = subst (λ (v : RawTree). Means st table variables scope v f) one x;
        second = subst (λ (v : RawTree). Means st table variables scope v g) two y;
      }
  both_is (either a b) t u e = absurd (no_such (codes "&") _ _ e refl refl)
  both_is (if_then a b) t u e = absurd (no_such (codes "&") _ _ e refl refl)
  both_is (then_if a b) t u e = absurd (no_such (codes "&") _ _ e refl refl)
  both_is (if_and_only_if a b) t u e = absurd (no_such (codes "&") _ _ e refl refl)
  both_is (equals a b) t u e = absurd (no_such (codes "&") _ _ e refl refl)
  both_is (differs a b) t u e = absurd (no_such (codes "&") _ _ e refl refl)
  both_is (related {scope} {name} {ts} is unbound at all) t u e =
      let n : name ≡ codes "&" = ap name_at e in
      let parts : ts ≡ more_raws t (more_raws u no_raws) = ap parts_at e in
      absurd (false≢true (sym (ap₂ (λ s us. is_relation st scope s us) n parts) ∙ is))

  -- what a denied equation means
  record IsDenied (scope : List Bound) (t u : RawTree) (f : Fol) : Type 0 where
    left : Tree
    right : Tree
    is : f ≡ negation (equal left right)
    first : MeansTerm st table variables scope t left
    second : MeansTerm st table variables scope u right

  denied_is : {scope : List Bound} {r : RawTree} {f : Fol} → Means st table variables scope r f → (t u : RawTree) → r ≡ between (codes "!=") t u → IsDenied scope t u f
  denied_is (for_all at m) t u e = absurd (no_such (codes "!=") _ _ e refl refl)
  denied_is (there_is at m) t u e = absurd (no_such (codes "!=") _ _ e refl refl)
  denied_is (truth unbound) t u e = absurd (no_such (codes "!=") _ _ e refl refl)
  denied_is (falsity unbound) t u e = absurd (no_such (codes "!=") _ _ e refl refl)
  denied_is (denied m) t u e = absurd (no_such (codes "!=") _ _ e refl refl)
  denied_is (both a b) t u e = absurd (no_such (codes "!=") _ _ e refl refl)
  denied_is (either a b) t u e = absurd (no_such (codes "!=") _ _ e refl refl)
  denied_is (if_then a b) t u e = absurd (no_such (codes "!=") _ _ e refl refl)
  denied_is (then_if a b) t u e = absurd (no_such (codes "!=") _ _ e refl refl)
  denied_is (if_and_only_if a b) t u e = absurd (no_such (codes "!=") _ _ e refl refl)
  denied_is (equals a b) t u e = absurd (no_such (codes "!=") _ _ e refl refl)
  denied_is (differs {scope} {t = a} {u = b} {a = x} {b = y} p q) t u e =
      let one : a ≡ t = ap first_at e in
      let two : b ≡ u = ap second_at e in
      record {
        left = x;
        right = y;
        is = refl;
        first = subst (λ (v : RawTree). MeansTerm st table variables scope v x) one p;
        second = subst (λ (v : RawTree). MeansTerm st table variables scope v y) two q;
      }
  denied_is (related {scope} {name} {ts} is unbound at all) t u e =
      let n : name ≡ codes "!=" = ap name_at e in
      let parts : ts ≡ more_raws t (more_raws u no_raws) = ap parts_at e in
      absurd (false≢true (sym (ap₂ (λ s us. is_relation st scope s us) n parts) ∙ is))

  -- the number of a name as a function is that of the table
  as_function : (name : List ℕ) (f : ℕ) → number_as Function table name 0 ≡ Some f → number_of table name 0 ≡ Some f
  as_function name f e = by (bytes_eq name (codes "#") || is_clash table (symbol name 0 Function)) e
    where
      by : (b : Bool) → (if b then None else number_of table name 0) ≡ Some f → number_of table name 0 ≡ Some f
      by true e = absurd (cc)
      by false e = e

  no_terms_are : {scope : List Bound} {ts : RawTrees} {us : Trees} → MeanTerms st table variables scope ts us → ts ≡ no_raws → us ≡ none
  no_terms_are no_terms e = refl
  no_terms_are (more_terms m ms) e = absurd (cc)

  -- what a name alone means that is no variable
  name_is : {scope : List Bound} {t : RawTree} {a : Tree} → MeansTerm st table variables scope t a → (name : List ℕ) → scope ≡ [] → t ≡ alone name → is_free_name st name ≡ false → a ≡ term_named st table name
  name_is (bound_variable {scope} {name = s} {n} e) name empty same plain =
      let there : None ≡ Some n = sym (ap (λ (bs : List Bound). bound_number bs s) empty) ∙ e in absurd (cc)
  name_is (free_variable {scope} {name = s} {n} e is k) name empty same plain =
      let n : s ≡ name = ap name_at same in
      absurd (false≢true (sym plain ∙ ap (is_free_name st) (sym n) ∙ is))
  name_is (element {scope} {name = s} other is small) name empty same plain =
      let n : s ≡ name = ap name_at same in
      let e : is_element st name ≡ true = ap (is_element st) (sym n) ∙ is in
      ap (λ (u : List ℕ). elem (limited_number_of u)) n
      ∙ sym (ap (λ (b : Bool). if b then elem (limited_number_of name) else app (unwrap_or (number_of table name 0) 0) none) e)
  name_is (applied {scope} {name = s} {ts} {us} {f} is number all) name empty same plain =
      let n : s ≡ name = ap name_at same in
      let parts : ts ≡ no_raws = ap parts_at same in
      let test : is_function st [] name no_raws ≡ true = sym (λ i. is_function st (empty i) (n i) (parts i)) ∙ is in
      let e : is_element st name ≡ false = denied_false (is_element st name) (and_parts _ _ test).1 in
      let found : number_of table name 0 ≡ Some f = as_function name f (sym (λ i. number_as Function table (n i) (arity_of (parts i))) ∙ number) in
      ap₂ app (sym (ap (λ (o : Option ℕ). unwrap_or o 0) found)) (no_terms_are all parts)
      ∙ sym (ap (λ (b : Bool). if b then elem (limited_number_of name) else app (unwrap_or (number_of table name 0) 0) none) e)
    where
      denied_false : (b : Bool) → not b ≡ true → b ≡ false
      denied_false true h = absurd (false≢true h)
      denied_false false h = refl

  module _ (M : Meaning) (e : Assignment) where
    -- what a part says
    abbrev Differs : RawTree → Type 0
    Differs (named n (more_raws (named s no_raws) (more_raws (named u no_raws) no_raws))) = ¬ value_of M e (term_named st table s) ≡ value_of M e (term_named st table u)
    Differs t = Unit {0}

    abbrev SaysSo : RawTree → Type 0
    SaysSo t = (f : Fol) → Means st table variables [] t f → Holds M e f ↔ Differs t

    part_says : (s u : List ℕ) → is_free_name st s ≡ false → is_free_name st u ≡ false → SaysSo (differ s u)
    part_says s u a b f m =
        let d = denied_is m (alone s) (alone u) refl in
        let x : d.left ≡ term_named st table s = name_is d.first s refl refl a in
        let y : d.right ≡ term_named st table u = name_is d.second u refl refl b in (
          λ h q. (subst (Holds M e) d.is h) (ap (value_of M e) x ∙ q ∙ sym (ap (value_of M e) y)),
          λ k. subst (Holds M e) (sym d.is) (λ q. k (sym (ap (value_of M e) x) ∙ q ∙ ap (value_of M e) y)),
        )

    -- all of them say so joined just where each does
    joined : (n : ℕ) (ts : List RawTree) → length ts ≤ n → AllByRecursion SaysSo ts → (f : Fol) → Means st table variables [] (halved n ts) f → Holds M e f ↔ AllByRecursion Differs ts
    unfolding halved
    joined n [] h says f m = let v = truth_is m refl in (λ _. tt, λ _. subst (Holds M e) (sym v) tt)
    joined n (t ∷ []) h says f m = let r = says.0 f m in (λ k. (r.0 k, tt), λ k. r.1 k.0)
    joined zero (t ∷ u ∷ ts) h says f m = absurd (omega (arith, h))
    joined (suc n) (t ∷ u ∷ ts) h says f m =
        let half = length (t ∷ u ∷ ts) / 2 in
        let all = t ∷ u ∷ ts in
        let b = both_is m (halved n (take half all)) (halved n (drop half all)) refl in
        let one = joined n (take half all) (fewer_first n t u ts h) (first_half SaysSo half all says) b.left b.first in
        let two = joined n (drop half all) (fewer_second n t u ts h) (second_half SaysSo half all says) b.right b.second in (
          λ k. let p : Holds M e b.left × Holds M e b.right = subst (Holds M e) b.is k in both_halves Differs half all (one.0 p.0) (two.0 p.1),
          λ k. subst (Holds M e) (sym b.is) (one.1 (first_half Differs half all k), two.1 (second_half Differs half all k)),
        )

    none_free : (ns : List (List ℕ)) → list_any (is_free_name st) ns ≡ false → AllByRecursion (λ s. is_free_name st s ≡ false) ns
    none_free [] h = tt
    none_free (s ∷ ss) h = let p = neither (is_free_name st s) (list_any (is_free_name st) ss) h in (p.0, none_free ss p.1)
      where
        neither : (a b : Bool) → (a || b) ≡ false → (a ≡ false) × (b ≡ false)
        neither true b q = absurd (false≢true (sym q))
        neither false b q = (refl, q)

    -- the formula of names
    pub means_different : (ns : List (List ℕ)) → list_any (is_free_name st) ns ≡ false → (f : Fol) → Means st table variables [] (distinct_formula ns) f
        → Holds M e f ↔ AreDifferent (map (λ s. value_of M e (term_named st table s)) ns)
    unfolding distinct_formula
    means_different ns h f m =
        let r = joined (length (all_differ ns)) (all_differ ns) (omega arith) (each_pair (λ s. is_free_name st s ≡ false) SaysSo (λ s u a b. part_says s u a b) ns (none_free ns h)) f m in
        let v : List ℕ → ℕ = λ s. value_of M e (term_named st table s) in
        (λ k. pairs_differ v Differs (λ s u d. d) ns (r.0 k), λ k. r.1 (differ_pairs v Differs (λ s u d. d) ns k))
