-- Variables of terms, term by term.
use Rattle.std.proofs.Common.{◌≡◌, ℕ, suc, ◌+◌, ◌<◌, ◌≤◌, Bool, true, false, ◌||◌, List, ◌∷◌, length, get_or, drop, sym, ap, ◌∙◌, add-one, drop-cons}
use Rattle.std.proofs.lemmas.List.{drop_all}
use Rattle.fol_core.specs.TermView.{tree_of, tree_list}
use Rattle.fol_core.specs.Tree.{trees_of}
use Rattle.fol_core.specs.declared.term.Term.{Term}
use Rattle.substitutions.specs.Occurring.{has_variable, have_variable}

drop_next : (ts : List Term) (i : ℕ) (t : Term) → i < length ts → t ≡ get_or ts i t → drop i ts ≡ t ∷ drop (i + 1) ts
drop_next ts i t h is = rw (add-one, drop-cons ts i t) (ap (λ u. u ∷ drop (suc i) ts) (sym is))

-- whether the terms from one place on have a variable
abbrev pub variable_from : ℕ → List Term → ℕ → Bool
variable_from x ts i = have_variable x (trees_of (tree_list (drop i ts)))

variable_step : (x : ℕ) (ts : List Term) (i : ℕ) (t : Term) → i < length ts → t ≡ get_or ts i t → variable_from x ts i ≡ (has_variable x (tree_of t) || variable_from x ts (i + 1))
variable_step x ts i t h is = ap (λ us. have_variable x (trees_of (tree_list us))) (drop_next ts i t h is)

pub variable_here : (x : ℕ) (ts : List Term) (i : ℕ) (t : Term) → i < length ts → t ≡ get_or ts i t → has_variable x (tree_of t) ≡ true → variable_from x ts i ≡ true
variable_here x ts i t h is e = variable_step x ts i t h is ∙ ap (λ b. b || variable_from x ts (i + 1)) e

pub variable_behind : (x : ℕ) (ts : List Term) (i : ℕ) (t : Term) → i < length ts → t ≡ get_or ts i t → has_variable x (tree_of t) ≡ false → variable_from x ts i ≡ variable_from x ts (i + 1)
variable_behind x ts i t h is e = variable_step x ts i t h is ∙ ap (λ b. b || variable_from x ts (i + 1)) e

pub variable_end : (x : ℕ) (ts : List Term) (i : ℕ) → length ts ≤ i → variable_from x ts i ≡ false
variable_end x ts i h = ap (λ us. have_variable x (trees_of (tree_list us))) (drop_all i ts h)
