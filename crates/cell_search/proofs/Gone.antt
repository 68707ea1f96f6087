-- Instances that are gone over, step by step.
use Rattle.std.proofs.Common.{◌≡◌, ℕ, zero, suc, ◌+◌, ◌-◌, ◌<◌, ◌≤◌, max, true, List, [], ◌∷◌, ◌++◌, length, drop, get_or, Some, inl, inr, refl, sym, ap, ◌∙◌, subst, arith}
use Rattle.std.specs.List.{AllByRecursion}
use Rattle.std.proofs.lemmas.List.{length-append}
use Rattle.std.proofs.lemmas.Option.{none-some}
use Rattle.fol_core.specs.Literals.{ClauseTree}
use Rattle.fol_core.specs.Truth.{Assignment}
use Rattle.mace_cells.specs.Stacked.{IsItemAt}
use Rattle.mace_cells.specs.Trails.{Partial, value_in}
use Rattle.mace_cells.specs.World.{World, many_cells}
use Rattle.mace_cells.specs.declared.trail.TrailEntry.{TrailEntry}
use Rattle.mace_ground.specs.Instances.{assigned_by, IsInstance}
use Rattle.plain_search.specs.Fitting as plain
use Rattle.plain_search.specs.Orders.{IsNarrower, Obeys}
use Rattle.cell_search.proofs.Avoiding.{clause_hit, told_stays}
use Rattle.cell_search.proofs.Boarding.{kept_by}
use Rattle.cell_search.proofs.Covering.{cell_later}
use Rattle.cell_search.proofs.Instances.{clause_fits}
use Rattle.cell_search.proofs.Obeying.{narrower_than, obeyed_still}
use Rattle.cell_search.proofs.Telling.{told_as_seen}
use Rattle.cell_search.proofs.Valuing.{above_values, values_of, fewer_values, left_narrower, told_wider}
use Rattle.cell_search.proofs.Viewing.{view_has_values}
use Rattle.cell_search.specs.Covering.{AreDoneBefore, IsClauseAt, IsDone, IsGoneOver, first_steps}
use Rattle.cell_search.specs.Following.{AreWellLeft, GoesOver, Grows}
use Rattle.cell_search.specs.Known.{cell_seen}
use Rattle.cell_search.specs.Losses.{AreFresh}
use Rattle.cell_search.specs.Searchable.{HasAllCells, IsClauseOfCells}
use Rattle.cell_search.specs.Telling.{told_seen}
use Rattle.cell_search.specs.Viewing.{left_in}
use Rattle.cell_search.specs.Ways.{EachInClause}

-- the first steps stay the first
pub one_later : (e : TrailEntry) (es : List TrailEntry) (n : ℕ) → n ≤ length es → first_steps n (e ∷ es) ≡ first_steps n es
one_later e es n h = let more : suc (length es) - n ≡ suc (length es - n) = omega (arith, h) in ap (λ (k : ℕ). drop k (e ∷ es)) more

first_grown : (later es : List TrailEntry) (n : ℕ) → n ≤ length es → first_steps n (later ++ es) ≡ first_steps n es
first_grown [] es n h = refl
first_grown (e ∷ later) es n h =
    let long = length-append later es in
    one_later e (later ++ es) n (omega (arith, h, long)) ∙ first_grown later es n h

pub first_all : (es : List TrailEntry) (n : ℕ) → length es ≤ n → first_steps n es ≡ es
first_all es n h = let none : length es - n ≡ 0 = omega (arith, h) in ap (λ (k : ℕ). drop k es) none

module _ (es : List TrailEntry) (n : ℕ) (e : TrailEntry) (item : IsItemAt es n e) where
  abbrev later : List TrailEntry
  later = item.0

  abbrev earlier : List TrailEntry
  earlier = item.1.0

  parts : es ≡ later ++ e ∷ earlier
  parts = item.1.1

  many : length earlier ≡ n
  many = item.1.2

  steps_are : first_steps n es ≡ earlier
  steps_are =
      ap (first_steps n) parts ∙ first_grown later (e ∷ earlier) n (omega (arith, many)) ∙ one_later e earlier n (omega (arith, many)) ∙ first_all earlier n (omega (arith, many))

  next_steps : first_steps (n + 1) es ≡ e ∷ first_steps n es
  next_steps =
      ap (first_steps (n + 1)) parts ∙ first_grown later (e ∷ earlier) (n + 1) (omega (arith, many)) ∙ first_all (e ∷ earlier) (n + 1) (omega (arith, many))
      ∙ ap (λ (xs : List TrailEntry). e ∷ xs) (sym steps_are)

  inside : n + 1 ≤ length es
  inside =
      let long : length es ≡ length (later ++ e ∷ earlier) = ap (λ (xs : List TrailEntry). length xs) parts in
      let longer = length-append later (e ∷ earlier) in
      omega (arith, long, longer, many)

  with_later : es ≡ later ++ e ∷ first_steps n es
  with_later = parts ∙ ap (λ (xs : List TrailEntry). later ++ e ∷ xs) (sym steps_are)

-- steps keep the values of those before
kept_later : (w : World) (later es : List TrailEntry) → AreFresh w (later ++ es) → (k v : ℕ) → value_in es k ≡ Some v → value_in (later ++ es) k ≡ Some v
kept_later w [] es fresh k v h = h
kept_later w (e ∷ later) es fresh k v h = kept_by e (later ++ es) fresh.1 k v (kept_later w later es fresh.2 k v h)

clause_at : (P : ClauseTree → Type 0) (cs : List ClauseTree) (i : ℕ) (c : ClauseTree) → AllByRecursion P cs → i < length cs → c ≡ get_or cs i c → P c
clause_at P [] i c all h is = absurd (omega (arith, h))
clause_at P (d ∷ cs) zero c all h is = subst P (sym is) all.0
clause_at P (d ∷ cs) (suc i) c all h is = clause_at P cs i c all.1 (omega (arith, h)) is

pub at_fits : (w : World) (i : ℕ) (c : ClauseTree) → HasAllCells w → IsClauseAt w i c → plain.IsClauseOfCells w c
at_fits w i c cells at = clause_fits w c (clause_at (IsClauseOfCells w) w.clauses i c cells.clauses at.0 at.1)

abbrev big_for : World → Partial → ℕ
big_for w t = max (above_values t.entries) (max w.size 2)

two_for : (w : World) (t : Partial) → 2 ≤ big_for w t
two_for w t = omega arith

-- at the beginning
pub gone_at_first : (w : World) (t u : Partial) (n : ℕ) → HasAllCells w → AreWellLeft w t → AreFresh w u.entries → Grows t u → n ≡ length w.clauses → AreDoneBefore w n t u → IsGoneOver w u 0
gone_at_first w t u n cells well fresh grows many done i c xs at inst =
    let fits = at_fits w i c cells at in
    let less = at.0 in
    let did : IsDone w c xs t u = done cells well i c xs (omega (arith, less, many)) at inst in
    let obeys : Obeys (left_in w u) (told_seen w t.entries (assigned_by xs) c) = subst (Obeys (left_in w u)) (told_as_seen w t.entries (left_in w t) (assigned_by xs) c (view_has_values w t cells well) fits) did in
    let fresh_parts : AreFresh w (grows.later ++ t.entries) = subst (AreFresh w) grows.entries fresh in
    let keeps : (k v : ℕ) → k < many_cells w → value_in t.entries k ≡ Some v → value_in u.entries k ≡ Some v = λ k v few h. subst (λ (es : List TrailEntry). value_in es k ≡ Some v) (sym grows.entries) (kept_later w grows.later t.entries fresh_parts k v h) in
    let none : first_steps 0 u.entries ≡ [] = no_steps u.entries in
    subst (λ (es : List TrailEntry). Obeys (left_in w u) (told_seen w es (assigned_by xs) c)) (sym none)
    (told_wider w (big_both t u) (two_both t u) [] t.entries (left_in w u) (assigned_by xs) c cells fits (λ k v few h. absurd (none-some v h)) (small_both t u) (narrow t u cells keeps) obeys)
  where
    no_steps : (es : List TrailEntry) → first_steps 0 es ≡ []
    no_steps [] = refl
    no_steps (e ∷ es) = one_later e es 0 (omega arith) ∙ no_steps es

    big_both : Partial → Partial → ℕ
    big_both t u = max (above_values t.entries) (max (above_values u.entries) (max w.size 2))

    two_both : (t u : Partial) → 2 ≤ big_both t u
    two_both t u = omega arith

    small_both : (t u : Partial) → above_values t.entries ≤ big_both t u
    small_both t u = omega arith

    narrow : (t u : Partial) → HasAllCells w → ((k v : ℕ) → k < many_cells w → value_in t.entries k ≡ Some v → value_in u.entries k ≡ Some v) → IsNarrower (left_in w u) (values_of w (big_both t u) t.entries)
    narrow t u cells keeps c v i =
        fewer_values w (big_both t u) (two_both t u) t.entries u.entries keeps (omega arith) c v (left_narrower w (big_both t u) (two_both t u) u (omega arith) c v i)

-- one more step is gone over
pub gone_more : (w : World) (t u : Partial) (n : ℕ) (e : TrailEntry) → HasAllCells w → AreWellLeft w t → AreFresh w t.entries → IsItemAt t.entries n e → GoesOver w t true u → Grows t u → IsGoneOver w t n
    → ((i : ℕ) (c : ClauseTree) (xs : List ℕ) → IsClauseAt w i c → IsInstance w.size c xs → EachInClause (λ kind s ts. cell_seen w t.entries (assigned_by xs) kind s ts ≡ Some e.cell → IsDone w c xs t u) c) → IsGoneOver w u (n + 1)
gone_more w t u n e cells well fresh item goes grows before covers i c xs at inst =
    let es = first_steps n t.entries in
    let f : Assignment = assigned_by xs in
    let steps : first_steps (n + 1) u.entries ≡ e ∷ es = ap (first_steps (n + 1)) grows.entries ∙ first_grown grows.later t.entries (n + 1) (inside t.entries n e item) ∙ next_steps t.entries n e item in
    let narrower = narrower_than w t cells well u goes in
    subst (λ (ds : List TrailEntry). Obeys (left_in w u) (told_seen w ds f c)) (sym steps)
    (elim (clause_hit w es e f (λ kind s ts. cell_seen w t.entries f kind s ts ≡ Some e.cell → IsDone w c xs t u) c (covers i c xs at inst)) [
      | inl apart ↦ subst (Obeys (left_in w u)) (sym (told_stays w es e f c apart)) (obeyed_still (left_in w t) (left_in w u) (told_seen w es f c) narrower (before i c xs at inst))
      | inr hit ↦
          let fits = at_fits w i c cells at in
          let parts = with_later t.entries n e item in
          let fresh_parts : AreFresh w (item.0 ++ e ∷ es) = subst (AreFresh w) parts fresh in
          let keeps : (k v : ℕ) → k < many_cells w → value_in (e ∷ es) k ≡ Some v → value_in t.entries k ≡ Some v = λ k v few h. subst (λ (ds : List TrailEntry). value_in ds k ≡ Some v) (sym parts) (kept_later w item.0 (e ∷ es) fresh_parts k v h) in
          let did : IsDone w c xs t u = hit.has (cell_later w (e ∷ es) t.entries keeps f hit.kind hit.symbol hit.terms e.cell hit.here) in
          let obeys : Obeys (left_in w u) (told_seen w t.entries f c) = subst (Obeys (left_in w u)) (told_as_seen w t.entries (left_in w t) f c (view_has_values w t cells well) fits) did in
          told_wider w (big_for w t) (two_for w t) (e ∷ es) t.entries (left_in w u) f c cells fits keeps (omega arith)
          (λ d v j. left_narrower w (big_for w t) (two_for w t) t (omega arith) d v (narrower d v j)) obeys
    ])
