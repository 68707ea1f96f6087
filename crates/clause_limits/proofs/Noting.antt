-- Variables noted one by one.
use Rattle.std.proofs.Common.{◌≡◌, ◌<◌, ◌≤◌, ℕ, suc, ◌+◌, ◌==◌, true, false, if◌then◌else◌, List, [], ◌∷◌, ◌++◌, length, map, drop, get_or, position, is_some, refl, sym, ap, ◌∙◌, add-one, drop-cons}
use Rattle.std.proofs.lemmas.List.{drop_all}
use Rattle.fol_core.specs.ClauseView.{literal_of}
use Rattle.fol_core.specs.Free.{is_in, joined, noted, variables_of}
use Rattle.fol_core.specs.Literals.{ClauseTree}
use Rattle.fol_core.specs.Renumbered.{clause_variables}
use Rattle.fol_core.specs.TermView.{tree_of}
use Rattle.fol_core.specs.declared.clause.Literal.{Literal}
use Rattle.fol_core.proofs.Places.{first_place_is_position, first_place-any}
use Rattle.fol_core.proofs.Variables.{once, once_joined, joined_joined}

-- a variable has a place exactly if it is among some
placed_in : (x : ℕ) (xs : List ℕ) → is_some (position (λ y. x == y) xs) ≡ is_in x xs
placed_in x xs = ap is_some (sym (first_place_is_position (λ y. x == y) xs)) ∙ first_place-any (λ y. x == y) xs

pub noted_there : (x : ℕ) (xs : List ℕ) → is_some (position (λ y. x == y) xs) ≡ true → xs ≡ noted xs x
noted_there x xs h = sym (ap (λ b. if b then xs else xs ++ x ∷ []) (sym (placed_in x xs) ∙ h))

pub noted_new : (x : ℕ) (xs : List ℕ) → is_some (position (λ y. x == y) xs) ≡ false → xs ++ x ∷ [] ≡ noted xs x
noted_new x xs h = sym (ap (λ b. if b then xs else xs ++ x ∷ []) (sym (placed_in x xs) ∙ h))

-- each of a clause is listed once
pub clause_once : (c : ClauseTree) → joined [] (clause_variables c) ≡ clause_variables c
clause_once [] = refl
clause_once (l ∷ c) = once_joined (variables_of l.atom) (clause_variables c) (once l.atom)

-- those of a literal and then those of the ones behind it
pub clause_next : (found : List ℕ) (ls : List Literal) (i : ℕ) (l : Literal) → i < length ls → l ≡ get_or ls i l
    → joined (joined found (variables_of (tree_of l.atom))) (clause_variables (map literal_of (drop (i + 1) ls))) ≡ joined found (clause_variables (map literal_of (drop i ls)))
clause_next found ls i l lt is =
    let parts : drop i ls ≡ l ∷ drop (i + 1) ls = rw (add-one, drop-cons ls i l) (ap (λ t. t ∷ drop (suc i) ls) (sym is)) in
    sym (ap (λ t. joined found (clause_variables (map literal_of t))) parts ∙ joined_joined found (variables_of (tree_of l.atom)) (clause_variables (map literal_of (drop (i + 1) ls))))

pub clause_end : (found : List ℕ) (ls : List Literal) (i : ℕ) → length ls ≤ i → joined found (clause_variables (map literal_of (drop i ls))) ≡ found
clause_end found ls i end = ap (λ t. joined found (clause_variables (map literal_of t))) (drop_all i ls end)
