-- A clause whose variables have numbers of the machine has no more of them than there are such numbers, numbered anew too.
use Rattle.std.proofs.Common.{◌≡◌, ℕ, suc, ◌≤◌, ◌<◌, ◌^◌, ◌==◌, Bool, true, false, if◌then◌else◌, List, [], ◌∷◌, ◌++◌, length, Option, Some, None, option_map, inl, inr, refl, sym, ap, subst, arith}
use Rattle.std.specs.Prelude.{unwrap_or}
use Rattle.std.specs.List.{AllByRecursion, IsDistinct}
use Rattle.std.proofs.lemmas.Bool.{eqb-true, or_parts, or_cases, false≢true}
use Rattle.std.proofs.lemmas.Bool.Decides.{nat_tests}
use Rattle.std.proofs.lemmas.Map.Steps.{length-le_from_distinct_below}
use Rattle.fol_core.specs.Free.{is_in, noted, joined, variables_of, variables_of_all}
use Rattle.fol_core.specs.Literals.{ClauseTree}
use Rattle.fol_core.specs.Renumbered.{clause_variables, place_in}
use Rattle.fol_core.specs.SymbolTable.{first_place}
use Rattle.fol_core.specs.Tree.{Tree, var, elem, app, Trees, none, more}
use Rattle.fol_core.proofs.Places.{all_push}
use Rattle.search_lines.proofs.Atoms.{AllAtoms, joined_all}
use Rattle.search_lines.proofs.Shapes.{IsLow}

-- the place of a number is one of the list's, or the first
pub place_below : (xs : List ℕ) (x n : ℕ) → length xs ≤ n → 0 < n → place_in xs x < n
place_below [] x n h l = l
place_below (y ∷ ys) x n h l = by (x == y) (first_place (λ z. x == z) ys) (λ m k. found ys m k)
  where
    found : (zs : List ℕ) (m : ℕ) → first_place (λ z. x == z) zs ≡ Some m → m < length zs
    found [] m e = absurd (cc)
    found (z ∷ zs) m e = step (x == z) (first_place (λ w. x == w) zs) (found zs) e
      where
        step : (b : Bool) (o : Option ℕ) → ((k : ℕ) → o ≡ Some k → k < length zs) → (if b then Some 0 else option_map suc o) ≡ Some m → m < suc (length zs)
        step true o rest e = omega (arith, ap (λ p. unwrap_or p 0) e)
        step false None rest e = absurd (cc)
        step false (Some k) rest e = omega (arith, ap (λ p. unwrap_or p 0) e, rest k refl)

    by : (b : Bool) (o : Option ℕ) → ((m : ℕ) → o ≡ Some m → m < length ys) → unwrap_or (if b then Some 0 else option_map suc o) 0 < n
    by true o rest = l
    by false None rest = l
    by false (Some m) rest = omega (arith, rest m refl, h)

abbrev AreOnce : List ℕ → Type 0
AreOnce xs = IsDistinct (λ x y. x == y) xs

turned : (x y : ℕ) → (x == y) ≡ false → (y == x) ≡ false
turned x y h = grind (arith, nat_tests)

push_once : (xs : List ℕ) (y : ℕ) → AreOnce xs → is_in y xs ≡ false → AreOnce (xs ++ y ∷ [])
unfolding IsDistinct
push_once [] y h n = (tt, tt)
push_once (x ∷ xs) y h n =
    let parts = or_parts (y == x) (is_in y xs) n in
    (all_push (λ z. (x == z) ≡ false) xs y h.0 (turned y x parts.0), push_once xs y h.1 parts.1)

noted_once : (xs : List ℕ) (y : ℕ) → AreOnce xs → AreOnce (noted xs y)
noted_once xs y h = by (is_in y xs) refl
  where
    by : (b : Bool) → is_in y xs ≡ b → AreOnce (if b then xs else xs ++ y ∷ [])
    by true e = h
    by false e = push_once xs y h e

joined_once : (xs ys : List ℕ) → AreOnce xs → AreOnce (joined xs ys)
joined_once xs [] h = h
joined_once xs (y ∷ ys) h = joined_once (noted xs y) ys (noted_once xs y h)

mutual
  unfolding IsDistinct

  term_once : (t : Tree) → AreOnce (variables_of t)
  term_once (var x) = (tt, tt)
  term_once (elem k) = tt
  term_once (app s ts) = terms_once ts

  terms_once : (ts : Trees) → AreOnce (variables_of_all ts)
  terms_once none = tt
  terms_once (more t ts) = joined_once (variables_of t) (variables_of_all ts) (term_once t)

clause_once : (c : ClauseTree) → AreOnce (clause_variables c)
unfolding IsDistinct
clause_once [] = tt
clause_once (l ∷ c) = joined_once (variables_of l.atom) (clause_variables c) (term_once l.atom)

each_low : (xs : List ℕ) → AllByRecursion IsLow xs → (x : ℕ) → is_in x xs ≡ true → IsLow x
each_low [] h x e = absurd (false≢true e)
each_low (y ∷ ys) h x e = elim (or_cases (x == y) (is_in x ys) e) [ inl i ↦ subst IsLow (sym (eqb-true x y i)) h.0 | inr j ↦ each_low ys h.1 x j ]

clause_low : (c : ClauseTree) → AllAtoms (λ t. AllByRecursion IsLow (variables_of t)) c → AllByRecursion IsLow (clause_variables c)
clause_low [] h = tt
clause_low (l ∷ c) h = joined_all IsLow (variables_of l.atom) (clause_variables c) h.0 (clause_low c h.1)

pub few_variables : (c : ClauseTree) → AllAtoms (λ t. AllByRecursion IsLow (variables_of t)) c → length (clause_variables c) ≤ 2 ^ 64
few_variables c h = length-le_from_distinct_below (clause_variables c) (2 ^ 64) (clause_once c) (λ x e. each_low (clause_variables c) (clause_low c h) x e)
