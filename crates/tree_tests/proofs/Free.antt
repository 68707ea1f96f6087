-- Numbers that no entry has.
use Rattle.std.proofs.Common.{◌≡◌, ◌+◌, ◌<◌, ◌≤◌, ◌==◌, ℕ, Bool, true, false, if◌then◌else◌, nat_lt, refl, sym, ap, ap₂, subst, ◌∙◌, List, [], ◌∷◌, ◌++◌, ◌||◌, arith}
use Rattle.std.specs.List.{filter}
use Rattle.std.proofs.lemmas.List.Folds.{list_any-append}
use Rattle.fol_core.specs.Tree.{Tree}
use Rattle.discrim_tree.specs.Entries.{Indexed, indexed, has_number, with_entry}
use Rattle.discrim_tree.proofs.NodeSteps.{apart}

-- what is left out of entries has no number that none of them has
filtered : (n : ℕ) (keeps : Indexed → Bool) (es : List Indexed) → has_number n es ≡ false → has_number n (filter keeps es) ≡ false
filtered n keeps [] h = refl
filtered n keeps (e ∷ es) h = by (λ k. filtered n keeps es k) (keeps e) (e.number == n) refl h
  where
    by : (has_number n es ≡ false → has_number n (filter keeps es) ≡ false) → (kept same : Bool) → (e.number == n) ≡ same → (same || has_number n es) ≡ false → has_number n (if kept then e ∷ filter keeps es else filter keeps es) ≡ false
    by rest kept true s k = let bad : true ≡ false = k in cc
    by rest false false s k = rest k
    by rest true false s k = ap (λ b. b || has_number n (filter keeps es)) s ∙ rest k

not_it : (k : ℕ) → k < k → ⊥
not_it k h = absurd (omega (arith, h))

-- one more entry has its own number and no other
pub free_on : (k : ℕ) (t : Tree) (es : List Indexed) (n : ℕ) → k < n → has_number n es ≡ false → has_number n (with_entry (indexed k t) es) ≡ false
free_on k t es n above h =
    let other = apart k n (λ s. not_it k (subst (λ m. k < m) (sym s) above)) in
    list_any-append (λ (e : Indexed). e.number == n) (filter (λ (d : Indexed). nat_lt d.number k) es) (indexed k t ∷ filter (λ (d : Indexed). nat_lt k d.number) es)
    ∙ ap₂ (λ a b. a || b) (filtered n (λ (d : Indexed). nat_lt d.number k) es h)
    (ap₂ (λ a b. a || b) other (filtered n (λ (d : Indexed). nat_lt k d.number) es h))

pub not_less : (n : ℕ) → n ≤ n
not_less n = omega arith

pub next_above : (k n : ℕ) → k + 1 ≤ n → k < n
next_above k n h = omega (arith, h)
