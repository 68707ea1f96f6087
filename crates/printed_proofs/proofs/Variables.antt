-- The variables of a clause: each is below 2 ^ 64, so there are no more of them.
use Rattle.std.proofs.Common.{◌≡◌, ℕ, ◌≤◌, ◌^◌, Bool, true, false, ◌==◌, ◌||◌, eqb, if◌then◌else◌, List, [], ◌∷◌, ◌++◌, length, map, refl, sym, subst}
use Rattle.std.proofs.lemmas.Bool.{eqb-true, or_parts}
use Rattle.std.proofs.lemmas.Map.Steps.{length-le_from_distinct_below}
use Rattle.std.specs.List.{AllByRecursion, IsDistinct, list_any}
use Rattle.fol_core.specs.Bound.{IsOnce}
use Rattle.fol_core.specs.ClauseView.{literal_of}
use Rattle.fol_core.specs.Free.{is_in, noted, joined, variables_of, variables_of_all}
use Rattle.fol_core.specs.Literals.{ClauseTree}
use Rattle.fol_core.specs.Renumbered.{clause_variables}
use Rattle.fol_core.specs.TermView.{tree_of, tree_list}
use Rattle.fol_core.specs.Tree.{trees_of}
use Rattle.fol_core.specs.declared.clause.Literal.{Literal}
use Rattle.fol_core.specs.declared.term.Term.{Term}
use Rattle.fol_core.proofs.Variables.{noted_once, once, once_joined}
use Rattle.printed_proofs.specs.LineBounds.{HasFewVariables}
use Rattle.words_print.specs.Sayable.{IsShort, AreShort}

short_behind : (xs : List ℕ) (x : ℕ) → AreShort xs → IsShort x → AreShort (xs ++ x ∷ [])
short_behind [] x short here = (here, tt)
short_behind (y ∷ ys) x short here = (short.0, short_behind ys x short.1 here)

short_joined : (xs ys : List ℕ) → AreShort xs → AreShort ys → AreShort (joined xs ys)
short_joined xs [] short more = short
short_joined xs (y ∷ ys) short more = short_joined (noted xs y) ys (by (is_in y xs)) more.1
  where
    by : (b : Bool) → AreShort (if b then xs else xs ++ y ∷ [])
    by true = short
    by false = short_behind xs y short more.0

-- the variables of a term are below 2 ^ 64
abbrev pub IsShortTerm : Term → Type 0
IsShortTerm t = AreShort (variables_of (tree_of t))

-- so are those of terms
pub terms_all : (ts : List Term) → AllByRecursion IsShortTerm ts → AreShort (variables_of_all (trees_of (tree_list ts)))
terms_all [] all = tt
terms_all (t ∷ ts) all = short_joined (variables_of (tree_of t)) (variables_of_all (trees_of (tree_list ts))) all.0 (terms_all ts all.1)

abbrev pub IsShortLiteral : Literal → Type 0
IsShortLiteral l = IsShortTerm l.atom

-- and of literals
literals_all : (ls : List Literal) → AllByRecursion IsShortLiteral ls → AreShort (clause_variables (map literal_of ls))
literals_all [] all = tt
literals_all (l ∷ ls) all = short_joined (variables_of (tree_of l.atom)) (clause_variables (map literal_of ls)) all.0 (literals_all ls all.1)

joined_once : (xs ys : List ℕ) → IsOnce xs → IsOnce (joined xs ys)
joined_once xs [] h = h
joined_once xs (y ∷ ys) h = joined_once (noted xs y) ys (by (is_in y xs) refl)
  where
    by : (b : Bool) → is_in y xs ≡ b → IsOnce (if b then xs else xs ++ y ∷ [])
    by true e = h
    by false e = noted_once xs y h e

-- no variable of a clause is listed twice
listed_once : (c : ClauseTree) → joined [] (clause_variables c) ≡ clause_variables c
listed_once [] = refl
listed_once (l ∷ c) = once_joined (variables_of l.atom) (clause_variables c) (once l.atom)

clause_once : (c : ClauseTree) → IsOnce (clause_variables c)
clause_once c = subst IsOnce (listed_once c) (joined_once [] (clause_variables c) tt)

apart : (x : ℕ) (xs : List ℕ) → is_in x xs ≡ false → AllByRecursion (λ y. eqb x y ≡ false) xs
apart x [] e = tt
apart x (y ∷ ys) e = let parts = or_parts (x == y) (is_in x ys) e in (parts.0, apart x ys parts.1)

distinct : (xs : List ℕ) → IsOnce xs → IsDistinct eqb xs
unfolding IsDistinct
distinct [] h = tt
distinct (x ∷ xs) h = (apart x xs h.0, distinct xs h.1)

below : (xs : List ℕ) → AreShort xs → (q : ℕ) → list_any (eqb q) xs ≡ true → IsShort q
below [] short q e = cc
below (x ∷ xs) short q e = by (eqb q x) refl (below xs short.1 q) e
  where
    by : (b : Bool) → eqb q x ≡ b → (list_any (eqb q) xs ≡ true → IsShort q) → (b || list_any (eqb q) xs) ≡ true → IsShort q
    by true h rest there = subst IsShort (sym (eqb-true q x h)) short.0
    by false h rest there = rest there

-- numbers below 2 ^ 64, each listed once, are at most 2 ^ 64
at_most : (xs : List ℕ) → IsOnce xs → AreShort xs → length xs ≤ 2 ^ 64
at_most xs h short = length-le_from_distinct_below xs (2 ^ 64) (distinct xs h) (below xs short)

pub few : (ls : List Literal) → AllByRecursion IsShortLiteral ls → HasFewVariables (map literal_of ls)
few ls all = at_most (clause_variables (map literal_of ls)) (clause_once (map literal_of ls)) (literals_all ls all)
