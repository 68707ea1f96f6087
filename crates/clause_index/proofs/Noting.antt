-- Terms that no rule fits in, slot by slot.
use Rattle.std.proofs.Common.{◌≡◌, ℕ, zero, suc, ◌<◌, List, [], ◌∷◌, ◌++◌, None, length, get_or, set, sym, subst, arith}
use Rattle.clause_index.specs.Normal.{HaveNoStep}
use Rattle.fol_core.specs.TermView.{tree_of, tree_list}
use Rattle.fol_core.specs.Tree.{Tree}
use Rattle.fol_core.specs.declared.term.Term.{Term}
use Rattle.prover_steps.specs.Clashing.{Held}
use Rattle.prover_steps.specs.Rewriting.{first_step}

step_none_at : (rs : List Held) (ts : List Term) (i : ℕ) (t : Term) → HaveNoStep rs (tree_list ts) → i < length ts → t ≡ get_or ts i t → first_step rs (tree_of t) ≡ None
step_none_at rs [] i t all h is = absurd (omega (arith, h))
step_none_at rs (u ∷ ts) zero t all h is = subst (λ v. first_step rs (tree_of v) ≡ None) (sym is) all.0
step_none_at rs (u ∷ ts) (suc i) t all h is = step_none_at rs ts i t all.1 (omega (arith, h)) is

-- the one in a slot, which is a term
pub step_none_there : (rs : List Held) (ts : List Term) (i : ℕ) (t : Term) (u : Tree) → HaveNoStep rs (tree_list ts) → i < length ts → t ≡ get_or ts i t → tree_of t ≡ u → first_step rs u ≡ None
step_none_there rs ts i t u all h is same = subst (λ v. first_step rs v ≡ None) same (step_none_at rs ts i t all h is)

-- another one is put in a slot
pub step_none_set : (rs : List Held) (ts : List Term) (i : ℕ) (t : Term) → HaveNoStep rs (tree_list ts) → first_step rs (tree_of t) ≡ None → HaveNoStep rs (tree_list (set ts i t))
step_none_set rs [] i t all none = tt
step_none_set rs (u ∷ ts) zero t all none = (none, all.1)
step_none_set rs (u ∷ ts) (suc i) t all none = (all.0, step_none_set rs ts i t all.1 none)

-- one more slot
pub step_none_more : (rs : List Held) (ts : List Term) (t : Term) → HaveNoStep rs (tree_list ts) → first_step rs (tree_of t) ≡ None → HaveNoStep rs (tree_list (ts ++ t ∷ []))
step_none_more rs [] t all none = (none, tt)
step_none_more rs (u ∷ ts) t all none = (all.0, step_none_more rs ts t all.1 none)
