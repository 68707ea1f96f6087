-- How many values are crossed off a cell is how many it has left less.
use Rattle.std.proofs.Common.{◌≡◌, ℕ, suc, ◌+◌, ◌-◌, ◌*◌, ◌/◌, ◌%◌, ◌<◌, ◌≤◌, ◌==◌, ◌||◌, max, Bool, true, false, not, if◌then◌else◌, List, [], ◌∷◌, length, None, inl, inr, refl, sym, ap, ◌∙◌, subst, arith}
use Rattle.std.specs.List.{filter, range_with_len}
use Rattle.std.proofs.lemmas.Bool.{eq-eqb, eqb-true, eqb-false}
use Rattle.std.proofs.lemmas.List.FromFn.{length-range_with_len}
use Rattle.std.proofs.lemmas.Nat.{div-add-mod', div-mul-add}
use Rattle.mace_cells.specs.Trails.{Partial, value_in, is_struck_off, crossings_of, counts_crossed, score}
use Rattle.mace_cells.specs.World.{World, cell_of, many_cells}
use Rattle.mace_cells.specs.declared.way.CellMeasure.{CellMeasure}
use Rattle.mace_cells.specs.declared.way.CellMeasure.TheVariants.{First, MostOccurrences, MostAssigned, MostContradicted, MostCrossed}
use Rattle.model_tables.specs.Size.{bound_of}
use Rattle.plain_search.proofs.Rising.{bounded_below, rising_filter}
use Rattle.plain_search.specs.Closing.{kept}
use Rattle.plain_search.specs.Lefts.{IsAmong}
use Rattle.plain_search.specs.Orders.{IsRisingFrom}
use Rattle.plain_search.specs.Trying as plain
use Rattle.plain_search.proofs.Solved.{among_range}
use Rattle.plain_search.proofs.Sounding.{among_filter}
use Rattle.cell_search.proofs.Bounding.{bound_fits}
use Rattle.cell_search.proofs.Crossing.{both_filter, not_either, range_below, same_filter, same_place}
use Rattle.cell_search.proofs.Following.{left_blank}
use Rattle.cell_search.proofs.Keeping.{takes_none}
use Rattle.cell_search.proofs.Valuing.{rising_range}
use Rattle.cell_search.specs.Losses.{AreCrossedOnce}
use Rattle.cell_search.specs.Scores.{is_ranked}
use Rattle.cell_search.specs.Searchable.{HasAllCells}
use Rattle.cell_search.specs.Viewing.{left_in}

-- a value is taken from a rising list
takes_one : (a v : ℕ) (us : List ℕ) → IsRisingFrom a us → IsAmong v us → length us ≡ suc (length (kept false v us))
takes_one a v [] rising i = absurd i
takes_one a v (u ∷ us) rising (inl same) =
    let test : (u == v) ≡ true = eq-eqb u v (sym same) in
    let apart : IsAmong v us → ⊥ = λ j. let above = bounded_below (suc u) v us rising.1 j in absurd (omega (arith, above, same)) in
    ap suc (ap (λ (xs : List ℕ). length xs) (sym (takes_none (suc u) v us rising.1 apart)))
    ∙ ap (λ (b : Bool). suc (length (if not b then u ∷ kept false v us else kept false v us))) (sym test)
takes_one a v (u ∷ us) rising (inr i) =
    let above = bounded_below (suc u) v us rising.1 i in
    let test : (u == v) ≡ false = off (u == v) refl above in
    ap suc (takes_one (suc u) v us rising.1 i) ∙ ap (λ (b : Bool). suc (length (if not b then u ∷ kept false v us else kept false v us))) (sym test)
  where
    off : (b : Bool) → (u == v) ≡ b → suc u ≤ v → b ≡ false
    off true e above = let same = eqb-true u v e in absurd (omega (arith, same, above))
    off false e above = refl

-- each value of a cell is crossed off once
abbrev AreOnce : ℕ → ℕ → ℕ → List ℕ → Type 0
AreOnce s k end [] = Unit {0}
AreOnce s k end (j ∷ js) = (is_struck_off j js ≡ false) × (j / s ≡ k → j % s < end) × AreOnce s k end js

module _ (s k end : ℕ) (some : 0 < s) (fits : end ≤ s) where
  abbrev left_of : List ℕ → List ℕ
  left_of ks = filter (λ v. not (is_struck_off (k * s + v) ks)) (range_with_len 0 end)

  -- a value of the cell is crossed off
  one_here : (j v : ℕ) (js : List ℕ) → j ≡ k * s + v → left_of (j ∷ js) ≡ kept false v (left_of js)
  one_here j v js is =
      both_filter (λ x. not (x == v)) (λ x. not (is_struck_off (k * s + x) js)) (λ x. not (is_struck_off (k * s + x) (j ∷ js)))
      (λ x. ap (λ (i : ℕ). not ((k * s + x == i) || is_struck_off (k * s + x) js)) is ∙ ap (λ (b : Bool). not (b || is_struck_off (k * s + x) js)) (same_place (k * s) x v) ∙ not_either (x == v) (is_struck_off (k * s + x) js))
      (range_with_len 0 end)

  -- or one of another cell
  one_elsewhere : (j : ℕ) (js : List ℕ) → (j / s ≡ k → ⊥) → left_of (j ∷ js) ≡ left_of js
  one_elsewhere j js other =
      same_filter (λ x. not (is_struck_off (k * s + x) (j ∷ js))) (λ x. not (is_struck_off (k * s + x) js)) (range_with_len 0 end)
      (λ x i. let less = range_below 0 end x i in ap (λ (b : Bool). not (b || is_struck_off (k * s + x) js)) (by x (omega (arith, less, fits)) (k * s + x == j) refl))
    where
      by : (x : ℕ) → x < s → (b : Bool) → (k * s + x == j) ≡ b → b ≡ false
      by x small true e = absurd (other (ap (λ (i : ℕ). i / s) (sym (eqb-true (k * s + x) j e)) ∙ div-mul-add k s x small))
      by x small false e = refl

  all_free : (xs : List ℕ) → filter (λ v. not (is_struck_off (k * s + v) [])) xs ≡ xs
  all_free [] = refl
  all_free (x ∷ xs) = ap (λ (ys : List ℕ). x ∷ ys) (all_free xs)

  counted : (js : List ℕ) → AreOnce s k end js → crossings_of s k js + length (left_of js) ≡ end
  counted [] once =
      let all = ap (λ (xs : List ℕ). length xs) (all_free (range_with_len 0 end)) in
      let many = length-range_with_len 0 end in
      omega (arith, all, many)
  counted (j ∷ js) once = by (j / s == k) refl (counted js once.2)
    where
      by : (b : Bool) → (j / s == k) ≡ b → crossings_of s k js + length (left_of js) ≡ end → (if b then suc (crossings_of s k js) else crossings_of s k js) + length (left_of (j ∷ js)) ≡ end
      by true e before =
          let v = j % s in
          let same : j / s ≡ k = eqb-true (j / s) k e in
          let whole : j / s * s + j % s ≡ j = div-add-mod' j s in
          let is : j ≡ k * s + j % s = sym whole ∙ ap (λ (q : ℕ). q * s + j % s) same in
          let small : j % s < end = once.1 same in
          let spare : is_struck_off (k * s + j % s) js ≡ false = ap (λ (i : ℕ). is_struck_off i js) (sym is) ∙ once.0 in
          let there : IsAmong (j % s) (left_of js) = among_filter (λ x. not (is_struck_off (k * s + x) js)) (j % s) (range_with_len 0 end) (ap not spare) (among_range (j % s) 0 end (omega arith) (omega (arith, small))) in
          let one = takes_one 0 (j % s) (left_of js) (rising_filter (λ x. not (is_struck_off (k * s + x) js)) 0 (range_with_len 0 end) (rising_range 0 end)) there in
          let fewer = ap (λ (xs : List ℕ). length xs) (one_here j (j % s) js is) in
          omega (arith, before, one, fewer)
      by false e before =
          let same = ap (λ (xs : List ℕ). length xs) (one_elsewhere j js (eqb-false (j / s) k e)) in
          omega (arith, before, same)

-- what a trail counts is the score, where that is counted
pub is_scored : (w : World) (t : Partial) (k : ℕ) → HasAllCells w → t.stride ≡ max w.size 2 → AreCrossedOnce w t.stride t.crossings → k < many_cells w → value_in t.entries k ≡ None → (m : CellMeasure) → is_ranked m ≡ true
    → score t (counts_crossed m) k ≡ plain.score m w (left_in w t) (cell_of w k)
is_scored w t k cells stride once few blank First h = refl
is_scored w t k cells stride once few blank MostOccurrences h = absurd (cc)
is_scored w t k cells stride once few blank MostAssigned h = absurd (cc)
is_scored w t k cells stride once few blank MostContradicted h = absurd (cc)
is_scored w t k cells stride once few blank MostCrossed h =
    let end = bound_of w.size (cell_of w k).kind in
    let fits = bound_fits w.size (cell_of w k).kind in
    let some : 0 < t.stride = omega (arith, stride) in
    let all = counted t.stride k end some (omega (arith, fits, stride)) t.crossings (once_of t.crossings once) in
    let left = ap (λ (xs : List ℕ). length xs) (left_blank w t cells k few blank) in
    omega (arith, all, left)
  where
    once_of : (js : List ℕ) → AreCrossedOnce w t.stride js → AreOnce t.stride k (bound_of w.size (cell_of w k).kind) js
    once_of [] h = tt
    once_of (j ∷ js) h = (h.0, (λ same. subst (λ (i : ℕ). j % t.stride < bound_of w.size (cell_of w i).kind) same h.1), once_of js h.2)
