-- The variables of a clause, literal by literal.
use Rattle.std.proofs.Common.{◌≡◌, ◌<◌, ◌≤◌, ℕ, suc, ◌+◌, List, [], ◌∷◌, length, map, drop, get_or, refl, sym, ap, ◌∙◌, add-one, drop-cons}
use Rattle.std.proofs.lemmas.List.{drop_all}
use Rattle.fol_core.specs.ClauseView.{literal_of}
use Rattle.fol_core.specs.Free.{joined, variables_of}
use Rattle.fol_core.specs.Literals.{ClauseTree}
use Rattle.fol_core.specs.Renumbered.{clause_variables}
use Rattle.fol_core.specs.TermView.{tree_of}
use Rattle.fol_core.specs.declared.clause.Literal.{Literal}
use Rattle.fol_core.proofs.Variables.{once, once_joined, joined_joined}

-- each is listed once
pub clause_once : (c : ClauseTree) → joined [] (clause_variables c) ≡ clause_variables c
clause_once [] = refl
clause_once (l ∷ c) = once_joined (variables_of l.atom) (clause_variables c) (once l.atom)

-- those of a literal and then those of the ones behind it
pub clause_next : (found : List ℕ) (ls : List Literal) (i : ℕ) (l : Literal) → i < length ls → l ≡ get_or ls i l
    → joined (joined found (variables_of (tree_of l.atom))) (clause_variables (map literal_of (drop (i + 1) ls))) ≡ joined found (clause_variables (map literal_of (drop i ls)))
clause_next found ls i l lt is =
    let parts : drop i ls ≡ l ∷ drop (i + 1) ls = rw (add-one, drop-cons ls i l) (ap (λ t. t ∷ drop (suc i) ls) (sym is)) in
    sym (ap (λ t. joined found (clause_variables (map literal_of t))) parts ∙ joined_joined found (variables_of (tree_of l.atom)) (clause_variables (map literal_of (drop (i + 1) ls))))

pub clause_end : (found : List ℕ) (ls : List Literal) (i : ℕ) → length ls ≤ i → joined found (clause_variables (map literal_of (drop i ls))) ≡ found
clause_end found ls i end = ap (λ t. joined found (clause_variables (map literal_of t))) (drop_all i ls end)
