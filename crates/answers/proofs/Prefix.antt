-- Numbering behind the literals leaves these numbered as before.
use Rattle.std.proofs.Common.{◌≡◌, ◌⊎◌, inl, inr, ℕ, suc, Bool, true, false, ◌==◌, if◌then◌else◌, IsTrue, List, [], ◌∷◌, ◌++◌, Some, unwrap_or, option_map, refl, sym, ap, ◌∙◌}
use Rattle.std.proofs.lemmas.Bool.{false≢true, or_cases, or_left, or_right}
use Rattle.fol_core.specs.Free.{is_in, noted, joined}
use Rattle.fol_core.specs.Literals.{ClauseTree}
use Rattle.fol_core.specs.Renumbered.{clause_variables, by_place, renumbered}
use Rattle.fol_core.specs.SymbolTable.{first_place}
use Rattle.fol_core.specs.Free.{variables_of}
use Rattle.fol_core.specs.Tree.{var}
use Rattle.fol_core.proofs.Variables.{joined_joined}
use Rattle.fol_core.proofs.Variables.{once, once_joined}
use Rattle.substitutions.proofs.Composing.{substitute_alike_clause, clause_listed}
use Rattle.answers.specs.AnswerTrees.{Answer, riders, numbering, numbered_clause}

clause_once : (c : ClauseTree) → joined [] (clause_variables c) ≡ clause_variables c
clause_once [] = refl
clause_once (l ∷ c) = once_joined (variables_of l.atom) (clause_variables c) (once l.atom)

pub variables_both : (c d : ClauseTree) → clause_variables (c ++ d) ≡ joined (clause_variables c) (clause_variables d)
variables_both [] d = sym (clause_once d)
variables_both (l ∷ c) d = ap (joined (variables_of l.atom)) (variables_both c d) ∙ joined_joined (variables_of l.atom) (clause_variables c) (clause_variables d)

-- a number that is there keeps its place where others come behind
place_pushed : (xs : List ℕ) (x y : ℕ) → IsTrue (is_in x xs) → first_place (λ z. x == z) (xs ++ y ∷ []) ≡ first_place (λ z. x == z) xs
place_pushed [] x y i = absurd (false≢true i)
place_pushed (z ∷ zs) x y i = by (x == z) refl (or_cases (x == z) (is_in x zs) i) (place_pushed zs x y)
  where
    by : (b : Bool) → (x == z) ≡ b → ((x == z) ≡ true) ⊎ (is_in x zs ≡ true)
        → (IsTrue (is_in x zs) → first_place (λ z. x == z) (zs ++ y ∷ []) ≡ first_place (λ z. x == z) zs)
        → (if b then Some 0 else option_map suc (first_place (λ z. x == z) (zs ++ y ∷ []))) ≡ (if b then Some 0 else option_map suc (first_place (λ z. x == z) zs))
    by true e h rest = refl
    by false e (inl here) rest = absurd (false≢true (sym e ∙ here))
    by false e (inr there) rest = ap (option_map suc) (rest there)

place_noted : (xs : List ℕ) (x y : ℕ) → IsTrue (is_in x xs) → first_place (λ z. x == z) (noted xs y) ≡ first_place (λ z. x == z) xs
place_noted xs x y i = by (is_in y xs)
  where
    by : (b : Bool) → first_place (λ z. x == z) (if b then xs else xs ++ y ∷ []) ≡ first_place (λ z. x == z) xs
    by true = refl
    by false = place_pushed xs x y i

in_pushed : (xs : List ℕ) (x y : ℕ) → IsTrue (is_in x xs) → IsTrue (is_in x (xs ++ y ∷ []))
in_pushed [] x y i = absurd (false≢true i)
in_pushed (z ∷ zs) x y i = elim (or_cases (x == z) (is_in x zs) i) [
  | inl here ↦ or_left (x == z) (is_in x (zs ++ y ∷ [])) here
  | inr there ↦ or_right (x == z) (is_in x (zs ++ y ∷ [])) (in_pushed zs x y there)
]

in_noted : (xs : List ℕ) (x y : ℕ) → IsTrue (is_in x xs) → IsTrue (is_in x (noted xs y))
in_noted xs x y i = by (is_in y xs)
  where
    by : (b : Bool) → IsTrue (is_in x (if b then xs else xs ++ y ∷ []))
    by true = i
    by false = in_pushed xs x y i

place_joined : (xs ys : List ℕ) (x : ℕ) → IsTrue (is_in x xs) → first_place (λ z. x == z) (joined xs ys) ≡ first_place (λ z. x == z) xs
place_joined xs [] x i = refl
place_joined xs (y ∷ ys) x i = place_joined (noted xs y) ys x (in_noted xs x y i) ∙ place_noted xs x y i

-- the literals of a clause are numbered as if there were no answers
pub numbered_is : (c : ClauseTree) (us : List Answer) → numbered_clause c us ≡ renumbered c
numbered_is c us = substitute_alike_clause (numbering c us) (by_place (clause_variables c)) c (λ x i.
    ap (λ xs. var (unwrap_or (first_place (λ z. x == z) xs) 0)) (variables_both c (riders us))
    ∙ ap (λ o. var (unwrap_or o 0)) (place_joined (clause_variables c) (clause_variables (riders us)) x (sym (clause_listed x c) ∙ i)))
