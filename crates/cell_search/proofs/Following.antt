-- Steps do what is asked, as the plain search does it.
use Rattle.std.proofs.Common.{◌≡◌, ℕ, ◌+◌, ◌*◌, ◌<◌, ◌≤◌, ◌==◌, ◌||◌, max, Bool, true, false, not, if◌then◌else◌, List, [], ◌∷◌, Option, None, Some, inl, inr, refl, sym, ap, ◌∙◌, subst, arith}
use mathlib.Core.Bool.{beq}
use Rattle.std.specs.List.{range_with_len}
use Rattle.std.proofs.lemmas.Bool.{eq-eqb, eqb-true}
use Rattle.std.proofs.lemmas.Option.{none-some, same_Some}
use Rattle.mace_cells.specs.Trails.{Partial, partial, HasTwoLeft, value_in, is_struck_off}
use Rattle.mace_cells.specs.World.{World, cell_of, many_cells}
use Rattle.mace_cells.specs.declared.trail.TrailEntry.{TrailEntry}
use Rattle.mace_ground.specs.Cells.{Cell}
use Rattle.model_tables.specs.Size.{bound_of}
use Rattle.plain_search.proofs.Rising.{all_left_table, passed, rising_filter}
use Rattle.plain_search.proofs.Sounding.{among_kept}
use Rattle.plain_search.specs.Closing.{asks, kept, narrowed, followed}
use Rattle.plain_search.specs.Lefts.{IsAmong, with_left}
use Rattle.plain_search.specs.Orders.{IsRisingFrom}
use Rattle.cell_search.proofs.Boarding.{kept_by}
use Rattle.cell_search.proofs.Bounding.{bound_fits}
use Rattle.cell_search.proofs.Crossing.{crossed_there, crossed_view, other_place, range_below}
use Rattle.cell_search.proofs.Keeping.{none_among, one_among, keeps_one, keeps_none, takes_none, narrowed_some, unchanged, asked_given}
use Rattle.cell_search.proofs.Viewing.{assigned_view, is_uncrossed, left_there}
use Rattle.cell_search.specs.Asking.{AreCrossedBut, IsWellLeft}
use Rattle.cell_search.specs.Following.{StayWellLeft, left_after}
use Rattle.cell_search.specs.Searchable.{HasAllCells}
use Rattle.cell_search.specs.Viewing.{uncrossed, left_at, left_in}

-- a cell that gets a value, and those that had one
pub well_assigned : (w : World) (t : Partial) (e : TrailEntry) → value_in t.entries e.cell ≡ None → StayWellLeft w t (partial t.many t.stride t.ranking (e ∷ t.entries) t.crossings)
well_assigned w t e blank k few (inl g) = inl (g.0, kept_by e t.entries blank k g.0 g.1)
well_assigned w t e blank k few (inr two) = inr two

module _ (w : World) (t : Partial) (cells : HasAllCells w) (k : ℕ) (few : k < many_cells w) where
  abbrev here : Cell
  here = cell_of w k

  abbrev end : ℕ
  end = bound_of w.size (cell_of w k).kind

  pub left_blank : value_in t.entries k ≡ None → left_in w t here ≡ uncrossed t k end
  left_blank blank = left_there w t cells.some cells.once k few ∙ ap (left_at t k end) blank

  left_given : (v : ℕ) → value_in t.entries k ≡ Some v → left_in w t here ≡ v ∷ []
  left_given v given = left_there w t cells.some cells.once k few ∙ ap (left_at t k end) given

  asked : (positive : Bool) (v : ℕ) (us : List ℕ) → left_in w t here ≡ us → followed (left_in w t) (asks here v positive) ≡ narrowed (left_in w t) here (kept positive v us)
  asked positive v us is = ap (λ (xs : List ℕ). narrowed (left_in w t) here (kept positive v xs)) is

  pub rising : IsRisingFrom 0 (uncrossed t k end)
  rising = rising_filter (λ v. not (is_struck_off (k * t.stride + v) t.crossings)) 0 (range_with_len 0 end) (all_left_table w cells.some here).0

  pub below : (v : ℕ) → IsAmong v (uncrossed t k end) → v < end
  below v i =
      let less = range_below 0 end v (passed (λ x. not (is_struck_off (k * t.stride + x) t.crossings)) v (range_with_len 0 end) i).0 in
      omega (arith, less)

  free : (v : ℕ) → is_struck_off (k * t.stride + v) t.crossings ≡ true → IsAmong v (uncrossed t k end) → ⊥
  free v struck i =
      let spared = (passed (λ x. not (is_struck_off (k * t.stride + x) t.crossings)) v (range_with_len 0 end) i).1 in
      let no : false ≡ true = sym (ap not struck) ∙ spared in
      cc

  -- those that aren't crossed off are the one that may be spared
  spared : (only : Option ℕ) (v : ℕ) → AreCrossedBut t k end only → IsAmong v (uncrossed t k end) → only ≡ Some v
  spared only v crossed i = elim (crossed v (below v i)) [ inl struck ↦ absurd (free v struck i) | inr is ↦ is ]

  pub all_crossed : AreCrossedBut t k end None → uncrossed t k end ≡ []
  all_crossed crossed = none_among (uncrossed t k end) (λ v i. none-some v (spared None v crossed i))

  pub one_spared : (u x : ℕ) → AreCrossedBut t k end (Some u) → IsAmong x (uncrossed t k end) → uncrossed t k end ≡ u ∷ []
  one_spared u x crossed i =
      let only : (v : ℕ) → IsAmong v (uncrossed t k end) → v ≡ u = λ v j. sym (same_Some u v (spared (Some u) v crossed j)) in
      one_among 0 u (uncrossed t k end) rising (subst (λ (y : ℕ). IsAmong y (uncrossed t k end)) (only x i) i) only

  -- a value that a cell can't have is asked for
  refused : (v : ℕ) → value_in t.entries k ≡ None → (IsAmong v (uncrossed t k end) → ⊥) → followed (left_in w t) (asks here v true) ≡ None
  refused v blank away =
      asked true v (uncrossed t k end) (left_blank blank) ∙ ap (narrowed (left_in w t) here) (keeps_none v (uncrossed t k end) away)

  pub too_great : (v n : ℕ) → value_in t.entries k ≡ None → n ≡ end → n ≤ v → followed (left_in w t) (asks here v true) ≡ None
  too_great v n blank is past = refused v blank (λ i. let less = below v i in absurd (omega (arith, less, is, past)))

  pub struck_off : (v : ℕ) → value_in t.entries k ≡ None → is_struck_off (k * t.stride + v) t.crossings ≡ true → followed (left_in w t) (asks here v true) ≡ None
  struck_off v blank struck = refused v blank (free v struck)

  -- or one that it gets
  pub gets : (e : TrailEntry) → e.cell ≡ k → value_in t.entries k ≡ None → e.value < end → is_struck_off (k * t.stride + e.value) t.crossings ≡ false
      → followed (left_in w t) (asks here e.value true) ≡ Some (left_in w (partial t.many t.stride t.ranking (e ∷ t.entries) t.crossings))
  gets e same blank within left =
      let view = assigned_view w t e cells (subst (λ (j : ℕ). j < many_cells w) (sym same) few) in
      asked true e.value (uncrossed t k end) (left_blank blank)
      ∙ ap (narrowed (left_in w t) here) (keeps_one 0 e.value (uncrossed t k end) rising (is_uncrossed t k end e.value within left))
      ∙ ap Some (sym (view ∙ ap (λ (j : ℕ). with_left (left_in w t) (cell_of w j) (e.value ∷ [])) same))

  pub alone : (u : ℕ) → left_in w t here ≡ u ∷ [] → followed (left_in w t) (asks here u true) ≡ Some (left_in w t)
  alone u is =
      asked true u (u ∷ []) is ∙ ap (narrowed (left_in w t) here) (keeps_one u u (u ∷ []) (omega arith, tt) (inl refl))
      ∙ unchanged (left_in w t) here (u ∷ []) u is (inl refl)

  -- a value that it hasn't left is taken from it
  missing : (v : ℕ) → value_in t.entries k ≡ None → HasTwoLeft t k end → (IsAmong v (uncrossed t k end) → ⊥) → followed (left_in w t) (asks here v false) ≡ Some (left_in w t)
  missing v blank two away =
      let less = two.2.0 in
      let within = two.2.1 in
      asked false v (uncrossed t k end) (left_blank blank) ∙ ap (narrowed (left_in w t) here) (takes_none 0 v (uncrossed t k end) rising away)
      ∙ unchanged (left_in w t) here (uncrossed t k end) two.0 (left_blank blank) (is_uncrossed t k end two.0 (omega (arith, less, within)) two.2.2)

  -- a cell without a value that is as it should be
  two_of : value_in t.entries k ≡ None → IsWellLeft w t k → HasTwoLeft t k end
  two_of blank (inl g) = absurd (none-some g.0 (sym blank ∙ g.1))
  two_of blank (inr two) = two

  pub missing_great : (v n : ℕ) → value_in t.entries k ≡ None → IsWellLeft w t k → n ≡ end → n ≤ v → followed (left_in w t) (asks here v false) ≡ Some (left_in w t)
  missing_great v n blank well is past =
      missing v blank (two_of blank well) (λ i. let less = below v i in absurd (omega (arith, less, is, past)))

  pub missing_struck : (v : ℕ) → value_in t.entries k ≡ None → IsWellLeft w t k → is_struck_off (k * t.stride + v) t.crossings ≡ true → followed (left_in w t) (asks here v false) ≡ Some (left_in w t)
  missing_struck v blank well struck = missing v blank (two_of blank well) (free v struck)

  -- a cell that has a value is asked for one
  pub asked_of : (x v : ℕ) (positive : Bool) → value_in t.entries k ≡ Some x → (b : Bool) → b ≡ beq (x == v) positive → followed (left_in w t) (asks here v positive) ≡ left_after w b t
  asked_of x v positive given b is = asked_given (left_in w t) here x v positive (left_given x given) ∙ by b (beq (x == v) positive) is
    where
      by : (b d : Bool) → b ≡ d → (if d then Some (left_in w t) else None) ≡ left_after w b t
      by true true e = refl
      by true false e = absurd cc
      by false true e = absurd cc
      by false false e = refl

-- a table with one value more crossed off
abbrev pub less_one : Partial → ℕ → ℕ → Partial
less_one t k v = partial t.many t.stride t.ranking t.entries ((k * t.stride + v) ∷ t.crossings)

-- a value is crossed off a cell
module _ (w : World) (t : Partial) (k v : ℕ) (cells : HasAllCells w) (few : k < many_cells w) (stride : t.stride ≡ max w.size 2) (within : v < t.stride) (blank : value_in t.entries k ≡ None) where
  same_kept : uncrossed (less_one t k v) k (bound_of w.size (cell_of w k).kind) ≡ kept false v (left_in w t (cell_of w k))
  same_kept =
      crossed_there w t k v cells few stride within blank (bound_of w.size (cell_of w k).kind) ∙ ap (kept false v) (sym (left_blank w t cells k few blank))

  pub taken : (x : ℕ) → IsAmong x (uncrossed (less_one t k v) k (bound_of w.size (cell_of w k).kind)) → followed (left_in w t) (asks (cell_of w k) v false) ≡ Some (left_in w (less_one t k v))
  taken x i =
      narrowed_some (left_in w t) (cell_of w k) (kept false v (left_in w t (cell_of w k))) x (subst (IsAmong x) same_kept i)
      ∙ ap Some (sym (crossed_view w t k v cells few stride within blank))

  pub none_left : AreCrossedBut (less_one t k v) k (bound_of w.size (cell_of w k).kind) None → followed (left_in w t) (asks (cell_of w k) v false) ≡ None
  none_left crossed =
      ap (narrowed (left_in w t) (cell_of w k)) (sym same_kept ∙ all_crossed w (less_one t k v) cells k few crossed)

  left_still : (x : ℕ) → x < bound_of w.size (cell_of w k).kind → is_struck_off (k * t.stride + x) t.crossings ≡ false → (x ≡ v → ⊥) → IsAmong x (uncrossed (less_one t k v) k (bound_of w.size (cell_of w k).kind))
  left_still x small spare other =
      let end = bound_of w.size (cell_of w k).kind in
      subst (IsAmong x) (sym (crossed_there w t k v cells few stride within blank end)) (among_kept false x v (uncrossed t k end) other (is_uncrossed t k end x small spare))

  -- of two values one is left
  pub some_left : IsWellLeft w t k → (x : ℕ) × IsAmong x (uncrossed (less_one t k v) k (bound_of w.size (cell_of w k).kind))
  some_left well = by (two_of w t cells k few blank well)
    where
      by : HasTwoLeft t k (bound_of w.size (cell_of w k).kind) → (x : ℕ) × IsAmong x (uncrossed (less_one t k v) k (bound_of w.size (cell_of w k).kind))
      by two = at (two.0 == v) refl
        where
          less : two.0 < two.1
          less = two.2.0

          small : two.1 < bound_of w.size (cell_of w k).kind
          small = two.2.1

          at : (b : Bool) → (two.0 == v) ≡ b → (x : ℕ) × IsAmong x (uncrossed (less_one t k v) k (bound_of w.size (cell_of w k).kind))
          at true e = (two.1, left_still two.1 small two.2.3 (λ same. let first = eqb-true two.0 v e in omega (arith, less, first, same)))
          at false e = (two.0, left_still two.0 (omega (arith, less, small)) two.2.2 (λ same. let no : true ≡ false = sym (eq-eqb two.0 v same) ∙ e in cc))

  pub one_alone : (u x : ℕ) → IsAmong x (uncrossed (less_one t k v) k (bound_of w.size (cell_of w k).kind)) → AreCrossedBut (less_one t k v) k (bound_of w.size (cell_of w k).kind) (Some u)
      → followed (left_in w (less_one t k v)) (asks (cell_of w k) u true) ≡ Some (left_in w (less_one t k v))
  one_alone u x i crossed = alone w (less_one t k v) cells k few u (left_blank w (less_one t k v) cells k few blank ∙ one_spared w (less_one t k v) cells k few u x crossed i)

module _ (w : World) (t : Partial) (k v : ℕ) (stride : t.stride ≡ max w.size 2) (within : v < t.stride) where
  -- the other cells have left what they had
  pub well_elsewhere : (j : ℕ) → (k ≡ j → ⊥) → IsWellLeft w t j → IsWellLeft w (less_one t k v) j
  well_elsewhere j other (inl g) = inl g
  well_elsewhere j other (inr two) =
      let less = two.2.0 in
      let small = two.2.1 in
      let fits = bound_fits w.size (cell_of w j).kind in
      inr (
        two.0,
        two.1,
        (
          less,
          small,
          free_still two.0 (omega (arith, less, small, fits, stride)) two.2.2,
          free_still two.1 (omega (arith, small, fits, stride)) two.2.3,
        ),
      )
    where
      free_still : (x : ℕ) → x < t.stride → is_struck_off (j * t.stride + x) t.crossings ≡ false → is_struck_off (j * t.stride + x) ((k * t.stride + v) ∷ t.crossings) ≡ false
      free_still x inside spare = ap (λ (b : Bool). b || is_struck_off (j * t.stride + x) t.crossings) (other_place t.stride k j x v inside within other) ∙ spare

  -- and so has the cell, where it has two left or gets a value
  pub well_crossed : (t' : Partial) → IsWellLeft w t' k → StayWellLeft w (less_one t k v) t' → StayWellLeft w t t'
  well_crossed t' there stay j few_j well = by (k == j) refl
    where
      by : (b : Bool) → (k == j) ≡ b → IsWellLeft w t' j
      by true e = subst (IsWellLeft w t') (eqb-true k j e) there
      by false e = stay j few_j (well_elsewhere j (λ same. let no : true ≡ false = sym (eq-eqb k j same) ∙ e in cc) well)
