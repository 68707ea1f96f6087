-- What can't be, and what must be, by what is left.
use Rattle.std.proofs.Common.{◌≡◌, ℕ, ◌+◌, ◌*◌, ◌<◌, ◌≤◌, ◌==◌, ◌⊎◌, inl, inr, List, Bool, true, false, MatchBool, max, Option, None, Some, refl, sym, ◌∙◌, subst, arith}
use mathlib.Core.Bool.{beq}
use Rattle.std.proofs.lemmas.Bool.{cases_lt}
use Rattle.std.proofs.lemmas.Option.{none-some, same_Some}
use Rattle.std.proofs.lemmas.Bool.Decides.{nat_tests}
use Rattle.fol_core.specs.Meaning.{Meaning}
use Rattle.mace_cells.specs.Choices.{AgreesWith}
use Rattle.mace_cells.specs.Trails.{Partial, value_in, is_struck_off}
use Rattle.mace_cells.specs.World.{World, Solves, cell_of, many_cells, IsRefuted}
use Rattle.mace_cells.specs.declared.trail.TrailEntry.{TrailEntry}
use Rattle.mace_ground.specs.Cells.{value_at}
use Rattle.model_tables.specs.Size.{bound_of}
use Rattle.cell_search.specs.Asking.{IsDue, IsOnly, AreCrossedBut, KeepsValues, IsGivenSingle}
use Rattle.cell_search.specs.Losses.{decided_in, IsBoard}
use Rattle.cell_search.specs.declared.asks.Ask.{Ask}
use Rattle.cell_search.proofs.Bounding.{value_below}

module _ (w : World) (t : Partial) (board : IsBoard w t) (k : ℕ) (within : k < many_cells w) where
  pub out_of_range : (v end : ℕ) → IsOnly w t.entries k v → end ≡ bound_of w.size (cell_of w k).kind → end ≤ v → IsRefuted w (decided_in w t.entries)
  out_of_range v end only is past = λ m s agrees. omega (arith, only m s agrees, is, past, value_below w m k board.some s within)

  pub struck_out : (v : ℕ) → IsOnly w t.entries k v → v < t.stride → is_struck_off (k * t.stride + v) t.crossings ≡ true → IsRefuted w (decided_in w t.entries)
  struck_out v only fits struck = λ m s agrees. (board.present m s agrees).1 k v within fits struck (only m s agrees)

  left_by : (end : ℕ) (only : Option ℕ) → end ≡ bound_of w.size (cell_of w k).kind → end ≤ t.stride → AreCrossedBut t k end only
      → (m : Meaning) → Solves w m → AgreesWith m (decided_in w t.entries) → only ≡ Some (value_at m (cell_of w k))
  left_by end only is fits crossed m s agrees =
      let v = value_at m (cell_of w k) in
      let below : v < end = omega (arith, is, value_below w m k board.some s within) in
      elim (crossed v below) [ inl struck ↦ absurd ((board.present m s agrees).1 k v within (omega (arith, below, fits)) struck refl) | inr here ↦ here ]

  pub fits_in : (end : ℕ) → end ≤ max w.size 2 → end ≤ t.stride
  fits_in end fits = omega (arith, fits, board.stride)

  pub nothing_left : (end : ℕ) → end ≡ bound_of w.size (cell_of w k).kind → end ≤ t.stride → AreCrossedBut t k end None → IsRefuted w (decided_in w t.entries)
  nothing_left end is fits crossed = λ m s agrees. none-some _ (left_by end None is fits crossed m s agrees)

  pub one_left : (end v : ℕ) → end ≡ bound_of w.size (cell_of w k).kind → end ≤ t.stride → AreCrossedBut t k end (Some v) → IsOnly w t.entries k v
  one_left end v is fits crossed = λ m s agrees. sym (same_Some _ _ (left_by end (Some v) is fits crossed m s agrees))

  -- a cell of one value has that one
  pub single : (end : ℕ) → end ≡ bound_of w.size (cell_of w k).kind → end ≡ 1 → IsOnly w t.entries k 0
  single end is one = λ m s agrees. omega (arith, is, one, value_below w m k board.some s within)

  -- what the table has
  pub given : (v : ℕ) → Some v ≡ value_in t.entries k → IsOnly w t.entries k v
  given v is = λ m s agrees. (board.present m s agrees).0 k v within (sym is)

-- a cell that has a value, and is asked for another
pub refused : (w : World) (t : Partial) (a : Ask) (v : ℕ) → IsOnly w t.entries a.cell v → IsDue w t.entries a → ((v == a.value) ≡ a.positive → ⊥) → IsRefuted w (decided_in w t.entries)
refused w t a v only due apart = λ m s agrees. by a.positive refl (only m s agrees) (due m s agrees)
  where
    by : {u : ℕ} → (b : Bool) → a.positive ≡ b → u ≡ v → MatchBool a.positive (u ≡ a.value) (u ≡ a.value → ⊥) → ⊥
    by true p is passes = let e = rw p at passes in apart (let same : v ≡ a.value = sym is ∙ e in grind (arith, nat_tests))
    by false p is passes = let e = rw p at passes in apart (let other : v ≡ a.value → ⊥ = λ h. e (is ∙ h) in grind (arith, nat_tests))

-- one value after the other is looked at
pub crossed_none : (t : Partial) (k : ℕ) (only : Option ℕ) → AreCrossedBut t k 0 only
crossed_none t k only = λ v h. absurd (omega (arith, h))

pub crossed_more : (t : Partial) (k i : ℕ) (only : Option ℕ) → AreCrossedBut t k i only → (is_struck_off (k * t.stride + i) t.crossings ≡ true) ⊎ (only ≡ Some i) → AreCrossedBut t k (i + 1) only
crossed_more t k i only before here = λ v h. elim (cases_lt v i) [
  | inl less ↦ before v less
  | inr most ↦ let same : i ≡ v = omega (arith, h, most) in subst (λ (j : ℕ). (is_struck_off (k * t.stride + j) t.crossings ≡ true) ⊎ (only ≡ Some j)) same here
]

pub crossed_first : (t : Partial) (k i : ℕ) → AreCrossedBut t k i None → AreCrossedBut t k (i + 1) (Some i)
crossed_first t k i before = crossed_more t k i (Some i) (λ v h. elim (before v h) [ inl struck ↦ inl struck | inr not ↦ absurd (none-some _ not) ]) (inr refl)

pub beq-false : (a b : Bool) → beq a b ≡ false → a ≡ b → ⊥
beq-false true true h e = let g : true ≡ false = h in cc
beq-false true false h e = cc
beq-false false true h e = cc
beq-false false false h e = let g : true ≡ false = h in cc

-- the cells of one value, one after the other
pub single_more : (w : World) (es es' : List TrailEntry) (i : ℕ) → ((k : ℕ) → k < i → IsGivenSingle w es k) → KeepsValues es es' → IsGivenSingle w es' i → (k : ℕ) → k < i + 1 → IsGivenSingle w es' k
single_more w es es' i before kept here = λ k h. elim (cases_lt k i) [
  | inl less ↦ λ one. (let g = before k less one in (g.0, kept k g.0 g.1))
  | inr most ↦ let same : i ≡ k = omega (arith, h, most) in subst (λ (j : ℕ). IsGivenSingle w es' j) same here
]
