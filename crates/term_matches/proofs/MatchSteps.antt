-- Matches of arguments, one after the other.
use Rattle.std.proofs.Common.{◌≡◌, ℕ, zero, suc, ◌+◌, ◌<◌, ◌≤◌, if◌then◌else◌, IsTrue, List, [], ◌∷◌, length, get_or, drop, Option, Some, None, refl, sym, ap, ap₂, ◌∙◌, subst, arith, add-one, drop-cons}
use Rattle.std.specs.Option.{option_and_then}
use Rattle.std.proofs.lemmas.List.{drop_all}
use Rattle.fol_core.specs.TermView.{tree_of, tree_list}
use Rattle.fol_core.specs.Tree.{Tree, none, trees_of}
use Rattle.fol_core.specs.declared.term.Term.{Term}
use Rattle.substitutions.specs.Bindings.{Binding, by_bindings}
use Rattle.unifiers.specs.Matching.{same_tree, bound_term, bound_to, matched, matched_all}
use Rattle.unifiers.proofs.MatchesFound.{tree_same, same_itself, match_makes, match_found}
use Rattle.fol_core.specs.Substitutions.{Substitution, substitute}
use Rattle.std.proofs.lemmas.Bool.{false_from_ne_true}

drop_next : (ts : List Term) (i : ℕ) (t : Term) → i < length ts → t ≡ get_or ts i t → drop i ts ≡ t ∷ drop (i + 1) ts
drop_next ts i t h is = rw (add-one, drop-cons ts i t) (ap (λ u. u ∷ drop (suc i) ts) (sym is))

-- the arguments from one place on
abbrev pub match_from : List Term → List Term → ℕ → List Binding → Option (List Binding)
match_from ls rs i bs = matched_all (trees_of (tree_list (drop i ls))) (trees_of (tree_list (drop i rs))) bs

step : (ls rs : List Term) (i : ℕ) (l r : Term) (bs : List Binding) → i < length ls → i < length rs → l ≡ get_or ls i l → r ≡ get_or rs i r
    → match_from ls rs i bs ≡ option_and_then (λ cs. match_from ls rs (i + 1) cs) (matched (tree_of l) (tree_of r) bs)
step ls rs i l r bs h k is was = ap₂ (λ a b. matched_all (trees_of (tree_list a)) (trees_of (tree_list b)) bs) (drop_next ls i l h is) (drop_next rs i r k was)

pub match_step : (ls rs : List Term) (i : ℕ) (l r : Term) (bs cs : List Binding) → i < length ls → i < length rs → l ≡ get_or ls i l → r ≡ get_or rs i r → matched (tree_of l) (tree_of r) bs ≡ Some cs
    → match_from ls rs i bs ≡ match_from ls rs (i + 1) cs
match_step ls rs i l r bs cs h k is was e = step ls rs i l r bs h k is was ∙ ap (option_and_then (λ cs. match_from ls rs (i + 1) cs)) e

pub match_fails : (ls rs : List Term) (i : ℕ) (l r : Term) (bs : List Binding) → i < length ls → i < length rs → l ≡ get_or ls i l → r ≡ get_or rs i r → matched (tree_of l) (tree_of r) bs ≡ None
    → match_from ls rs i bs ≡ None
match_fails ls rs i l r bs h k is was e = step ls rs i l r bs h k is was ∙ ap (option_and_then (λ cs. match_from ls rs (i + 1) cs)) e

pub match_long : (ls rs : List Term) (i : ℕ) (bs : List Binding) → i < length ls → length rs ≤ i → match_from ls rs i bs ≡ None
match_long ls rs i bs h k = ap (λ b. matched_all (trees_of (tree_list (drop i ls))) (trees_of (tree_list b)) bs) (drop_all i rs k) ∙ longer ls i h
  where
    longer : (ks : List Term) (n : ℕ) → n < length ks → matched_all (trees_of (tree_list (drop n ks))) none bs ≡ None
    longer [] n lt = absurd (omega arith)
    longer (t ∷ ks) zero lt = refl
    longer (t ∷ ks) (suc n) lt = longer ks n (omega arith)

pub match_short : (ls rs : List Term) (i : ℕ) (bs : List Binding) → length ls ≤ i → i < length rs → match_from ls rs i bs ≡ None
match_short ls rs i bs h k = ap (λ b. matched_all (trees_of (tree_list b)) (trees_of (tree_list (drop i rs))) bs) (drop_all i ls h) ∙ longer rs i k
  where
    longer : (ks : List Term) (n : ℕ) → n < length ks → matched_all none (trees_of (tree_list (drop n ks))) bs ≡ None
    longer [] n lt = absurd (omega arith)
    longer (t ∷ ks) zero lt = refl
    longer (t ∷ ks) (suc n) lt = longer ks n (omega arith)

pub match_end : (ls rs : List Term) (i : ℕ) (bs : List Binding) → length ls ≤ i → length rs ≤ i → match_from ls rs i bs ≡ Some bs
match_end ls rs i bs h k = ap₂ (λ a b. matched_all (trees_of (tree_list a)) (trees_of (tree_list b)) bs) (drop_all i ls h) (drop_all i rs k)

-- a variable that is given the same term, and one that is given another
pub bound_same : (bs : List Binding) (x : ℕ) (t u : Tree) → bound_term bs x ≡ Some u → u ≡ t → bound_to (bound_term bs x) x t bs ≡ Some bs
bound_same bs x t u is same = ap (λ o. bound_to o x t bs) is ∙ ap (λ b. if b then Some bs else None) (subst (λ v. IsTrue (same_tree u v)) same (same_itself u))

pub bound_other : (bs : List Binding) (x : ℕ) (t u : Tree) → bound_term bs x ≡ Some u → (u ≡ t → ⊥) → bound_to (bound_term bs x) x t bs ≡ None
bound_other bs x t u is apart = ap (λ o. bound_to o x t bs) is ∙ ap (λ b. if b then Some bs else None) (false_from_ne_true (same_tree u t) (λ h. apart (tree_same u t h)))

pub match_made : (s t : Tree) (bs : List Binding) → matched s t [] ≡ Some bs → substitute (by_bindings bs) s ≡ t
match_made = match_makes

pub match_none : (s t : Tree) → matched s t [] ≡ None → (u : Substitution) → substitute u s ≡ t → ⊥
match_none s t h u is = let found = match_found s t u is in let e = found.1 in cc
