-- The cell that is picked is the one that the plain search chooses.
use Rattle.std.proofs.Common.{◌≡◌, ℕ, suc, ◌<◌, ◌≤◌, max, nat_le, nat_lt, Bool, true, false, if◌then◌else◌, List, [], ◌∷◌, length, map, Option, None, Some, inl, inr, refl, sym, ap, ◌∙◌, subst, arith}
use Rattle.std.specs.Prelude.{◌⊎◌}
use Rattle.std.specs.List.{filter, range_with_len}
use Rattle.std.proofs.lemmas.Bool.{cases_lt, lt-ltb, le-ltb, le-leb, leb-true}
use Rattle.std.proofs.lemmas.Option.{none-some, same_Some}
use Rattle.cell_choice.specs.Choosing.{IsOfLeastIndex, IsCandidate, IsPreferred, IsPicked}
use Rattle.cell_choice.specs.Shapes.{index_in}
use Rattle.mace_cells.specs.Choices.{Decision}
use Rattle.mace_cells.specs.Numbers.{above_each, above_used}
use Rattle.mace_cells.specs.Trails.{Partial, IsBlank}
use Rattle.mace_cells.specs.World.{World, cell_of, many_cells}
use Rattle.mace_cells.specs.declared.way.Candidates.{Candidates}
use Rattle.mace_cells.specs.declared.way.Candidates.TheVariants.{All, LeastIndex, InUse}
use Rattle.mace_ground.specs.Cells.{Cell}
use Rattle.plain_search.proofs.Rising.{bounded_below, passed, rising_filter}
use Rattle.plain_search.proofs.Solved.{among_range}
use Rattle.plain_search.proofs.Sounding.{among_filter}
use Rattle.plain_search.specs.Lefts.{ValuesLeft, IsAmong, only_value}
use Rattle.plain_search.specs.Orders.{IsRisingFrom}
use Rattle.plain_search.specs.Trying as plain
use Rattle.plain_search.specs.Trying.{is_open, open_cells, up_to, least_index, candidates, better, best, chosen}
use Rattle.cell_search.proofs.Crossing.{range_below}
use Rattle.cell_search.proofs.Obeying.{table_of}
use Rattle.cell_search.proofs.Valuing.{rising_range}
use Rattle.cell_search.proofs.Viewing.{view_has_values}
use Rattle.cell_search.specs.Choosing.{IsTableOf, PickedIsChosen, NoneIsChosen, score_of}
use Rattle.cell_search.specs.Viewing.{left_in}

-- a test of cells is a test of their numbers
filter_map : (f : ℕ → Cell) (t : Cell → Bool) (ks : List ℕ) → filter t (map f ks) ≡ map f (filter (λ k. t (f k)) ks)
filter_map f t [] = refl
filter_map f t (k ∷ ks) = by (t (f k)) (filter_map f t ks)
  where
    by : (b : Bool) → filter t (map f ks) ≡ map f (filter (λ j. t (f j)) ks) → (if b then f k ∷ filter t (map f ks) else filter t (map f ks)) ≡ map f (if b then k ∷ filter (λ j. t (f j)) ks else filter (λ j. t (f j)) ks)
    by true rest = ap (λ (cs : List Cell). f k ∷ cs) rest
    by false rest = rest

-- the first of the greatest score
module _ (f : Cell → ℕ) (c : ℕ → Cell) where
  record IsSome (js : List ℕ) (d : Cell) : Type 0 where
    place : ℕ
    among : IsAmong place js
    named : d ≡ c place

  best_among : (js : List ℕ) (d : Cell) → best f (map c js) ≡ Some d → IsSome js d
  best_among [] d h = absurd (none-some d h)
  best_among (j ∷ js) d h = by (best f (map c js)) refl h (λ x e. best_among js x e)
    where
      here : ◌≡◌ {A = Option Cell} (Some (c j)) (Some d) → IsSome (j ∷ js) d
      here g = record { place = j; among = inl refl; named = sym (same_Some (c j) d g) }

      by : (o : Option Cell) → best f (map c js) ≡ o → better f (c j) o ≡ Some d → ((x : Cell) → best f (map c js) ≡ Some x → IsSome js x) → IsSome (j ∷ js) d
      by None e g rest = here g
      by (Some x) e g rest = at (nat_lt (f (c j)) (f x)) g
        where
          at : (b : Bool) → (if b then Some x else Some (c j)) ≡ Some d → IsSome (j ∷ js) d
          at true i = let r = rest x e in record { place = r.place; among = inr r.among; named = sym (same_Some x d i) ∙ r.named }
          at false i = here i

  -- one before all others
  best_is : (a : ℕ) (js : List ℕ) (k : ℕ) → IsRisingFrom a js → IsAmong k js → ((j : ℕ) → IsAmong j js → (f (c j) < f (c k)) ⊎ ((f (c j) ≡ f (c k)) × (k ≤ j))) → best f (map c js) ≡ Some (c k)
  best_is a [] k rising i most = absurd i
  best_is a (j ∷ js) k rising (inl same) most = first (best f (map c js)) refl
    where
      first : (o : Option Cell) → best f (map c js) ≡ o → better f (c j) o ≡ Some (c k)
      first None e = ap (λ (x : ℕ). Some (c x)) (sym same)
      first (Some x) e =
          let r = best_among js x e in
          let no : f x ≤ f (c j) = small (most r.place (inr r.among)) (ap f r.named) (ap (λ (y : ℕ). f (c y)) same) in
          ap (λ (b : Bool). if b then Some x else Some (c j)) (le-ltb (f (c j)) (f x) no) ∙ ap (λ (y : ℕ). Some (c y)) (sym same)
        where
          small : {p : ℕ} → (f (c p) < f (c k)) ⊎ ((f (c p) ≡ f (c k)) × (k ≤ p)) → f x ≡ f (c p) → f (c k) ≡ f (c j) → f x ≤ f (c j)
          small (inl less) a b = omega (arith, less, a, b)
          small (inr even) a b = let e = even.0 in omega (arith, e, a, b)
  best_is a (j ∷ js) k rising (inr i) most =
      let above = bounded_below (suc j) k js rising.1 i in
      let less : f (c j) < f (c k) = lower (most j (inl refl)) above in
      ap (better f (c j)) (best_is (suc j) js k rising.1 i (λ x h. most x (inr h))) ∙ ap (λ (b : Bool). if b then Some (c k) else Some (c j)) (lt-ltb (f (c j)) (f (c k)) less)
    where
      lower : (f (c j) < f (c k)) ⊎ ((f (c j) ≡ f (c k)) × (k ≤ j)) → suc j ≤ k → f (c j) < f (c k)
      lower (inl less) above = less
      lower (inr even) above = let low = even.1 in absurd (omega (arith, low, above))

-- the least index of some cells
module _ (w : World) where
  least_below : (ks : List ℕ) (j : ℕ) → IsAmong j ks → least_index (map (cell_of w) ks) ≤ index_in w j
  least_below [] j i = absurd i
  least_below (k ∷ []) j (inl same) = let e = ap (index_in w) same in omega (arith, e)
  least_below (k ∷ []) j (inr i) = absurd i
  least_below (k ∷ l ∷ ks) j (inl same) = let e = ap (index_in w) same in omega (arith, e)
  least_below (k ∷ l ∷ ks) j (inr i) = let less = least_below (l ∷ ks) j i in omega (arith, less)

  record IsLeastOf (ks : List ℕ) : Type 0 where
    place : ℕ
    among : IsAmong place ks
    least : least_index (map (cell_of w) ks) ≡ index_in w place

  least_has : (k : ℕ) (ks : List ℕ) → IsLeastOf (k ∷ ks)
  least_has k [] = record { place = k; among = inl refl; least = refl }
  least_has k (l ∷ ks) =
      let r = least_has l ks in
      let e = r.least in
      elim (cases_lt (index_in w k) (index_in w r.place)) [
        | inl less ↦ record { place = k; among = inl refl; least = omega (arith, less, e) }
        | inr most ↦ record { place = r.place; among = inr r.among; least = omega (arith, most, e) }
      ]

-- a table of a search
module _ (w : World) (t : Partial) (scored : IsTableOf w t) where
  abbrev p : ValuesLeft
  p = left_in w t

  abbrev blanks : List ℕ
  blanks = filter (λ k. is_open (p (cell_of w k))) (range_with_len 0 (many_cells w))

  open_is : (us : List ℕ) → 0 < length us → only_value us ≡ None → is_open us ≡ true
  open_is [] some h = absurd (omega (arith, some))
  open_is (u ∷ []) some h = absurd (none-some u (sym h))
  open_is (u ∷ v ∷ us) some h = refl

  only_is : (us : List ℕ) → is_open us ≡ true → only_value us ≡ None
  only_is [] h = absurd (let e : false ≡ true = h in cc)
  only_is (u ∷ []) h = absurd (let e : false ≡ true = h in cc)
  only_is (u ∷ v ∷ us) h = refl

  blank_in : (k : ℕ) → IsBlank t k → IsAmong k blanks
  blank_in k blank =
      let few : k < many_cells w = (let h = blank.0 in let m = scored.many in omega (arith, h, m)) in
      among_filter (λ j. is_open (p (cell_of w j))) k (range_with_len 0 (many_cells w))
      (open_is (p (cell_of w k)) (table_of w t scored.cells scored.well (cell_of w k)).1 (view_has_values w t scored.cells scored.well k few ∙ blank.1)) (among_range k 0 (many_cells w) (omega arith) (omega (arith, few)))

  in_blank : (k : ℕ) → IsAmong k blanks → IsBlank t k
  in_blank k i =
      let r = passed (λ j. is_open (p (cell_of w j))) k (range_with_len 0 (many_cells w)) i in
      let few = range_below 0 (many_cells w) k r.0 in
      let m = scored.many in
      (omega (arith, few, m), sym (view_has_values w t scored.cells scored.well k (omega (arith, few))) ∙ only_is (p (cell_of w k)) r.1)

  blanks_rise : IsRisingFrom 0 blanks
  blanks_rise = rising_filter (λ j. is_open (p (cell_of w j))) 0 (range_with_len 0 (many_cells w)) (rising_range 0 (many_cells w))

  open_are : open_cells w p ≡ map (cell_of w) blanks
  open_are = filter_map (cell_of w) (λ c. is_open (p c)) (range_with_len 0 (many_cells w))

  -- those among them of an index up to m
  abbrev within : ℕ → List ℕ
  within m = filter (λ k. nat_le (index_in w k) m) blanks

  up_to_is : (m : ℕ) → up_to m (map (cell_of w) blanks) ≡ map (cell_of w) (within m)
  up_to_is m = filter_map (cell_of w) (λ c. nat_le (above_each c.arguments) m) blanks

  within_rise : (m : ℕ) → IsRisingFrom 0 (within m)
  within_rise m = rising_filter (λ k. nat_le (index_in w k) m) 0 blanks blanks_rise

  into : (m k : ℕ) → IsBlank t k → index_in w k ≤ m → IsAmong k (within m)
  into m k blank low = among_filter (λ j. nat_le (index_in w j) m) k blanks (le-leb (index_in w k) m low) (blank_in k blank)

  out_of : (m k : ℕ) → IsAmong k (within m) → IsBlank t k × (index_in w k ≤ m)
  out_of m k i = let r = passed (λ j. nat_le (index_in w j) m) k blanks i in (in_blank k r.0, leb-true (index_in w k) m r.1)

  least_of : (k : ℕ) → IsBlank t k → IsOfLeastIndex (index_in w) t k → index_in w k ≤ least_index (map (cell_of w) blanks)
  least_of k blank low = by blanks refl (blank_in k blank)
    where
      by : (ks : List ℕ) → blanks ≡ ks → IsAmong k ks → index_in w k ≤ least_index (map (cell_of w) ks)
      by [] e i = absurd i
      by (j ∷ js) e i =
          let r = least_has w j js in
          let same = r.least in
          let less = low r.place (in_blank r.place (subst (IsAmong r.place) (sym e) r.among)) in
          omega (arith, less, same)

  of_least : (k : ℕ) → index_in w k ≤ least_index (map (cell_of w) blanks) → IsOfLeastIndex (index_in w) t k
  of_least k low j blank = let less = least_below w blanks j (blank_in j blank) in omega (arith, low, less)

  best_of : (ks : List ℕ) (k : ℕ) → IsRisingFrom 0 ks → IsAmong k ks → ((j : ℕ) → IsAmong j ks → IsBlank t j × IsPreferred (score_of w t) k j) → best (plain.score w.way.measure w p) (map (cell_of w) ks) ≡ Some (cell_of w k)
  best_of ks k rising i all =
      best_is (plain.score w.way.measure w p) (cell_of w) 0 ks k rising i (λ j h. (all j h).1)

  by_candidates : (a : Candidates) (used k : ℕ) → IsCandidate (index_in w) t a used k → ((j : ℕ) → IsCandidate (index_in w) t a used j → IsPreferred (score_of w t) k j)
      → best (plain.score w.way.measure w p) (candidates a used (map (cell_of w) blanks)) ≡ Some (cell_of w k)
  by_candidates All used k here most = best_of blanks k blanks_rise (blank_in k here) (λ j i. let b = in_blank j i in (b, most j b))
  by_candidates LeastIndex used k here most =
      let m = least_index (map (cell_of w) blanks) in
      ap (best (plain.score w.way.measure w p)) (up_to_is m)
      ∙ best_of (within m) k (within_rise m) (into m k here.0 (least_of k here.0 here.1)) (λ j i. let r = out_of m j i in (r.0, most j (r.0, of_least j r.1)))
  by_candidates InUse used k here most =
      let m = max used (least_index (map (cell_of w) blanks)) in
      ap (best (plain.score w.way.measure w p)) (up_to_is m)
      ∙ best_of (within m) k (within_rise m) (into m k here.0 (high here.0 here.1)) (λ j i. let r = out_of m j i in (r.0, most j (r.0, low j r.1)))
    where
      high : IsBlank t k → (index_in w k ≤ used) ⊎ IsOfLeastIndex (index_in w) t k → index_in w k ≤ max used (least_index (map (cell_of w) blanks))
      high blank (inl less) = omega (arith, less)
      high blank (inr first) = let less = least_of k blank first in omega (arith, less)

      low : (j : ℕ) → index_in w j ≤ max used (least_index (map (cell_of w) blanks)) → (index_in w j ≤ used) ⊎ IsOfLeastIndex (index_in w) t j
      low j h = elim (cases_lt used (index_in w j)) [
        | inl more ↦ inr (of_least j (omega (arith, h, more)))
        | inr less ↦ inl less
      ]

  pub picked_chosen : (ds : List Decision) (k : ℕ) → IsPicked (index_in w) t (score_of w t) w.way.candidates (above_used w.fixed ds) k → chosen w ds p ≡ Some (cell_of w k)
  picked_chosen ds k picked =
      ap (λ (cs : List Cell). best (plain.score w.way.measure w p) (candidates w.way.candidates (above_used w.fixed ds) cs)) open_are
      ∙ by_candidates w.way.candidates (above_used w.fixed ds) k picked.0 picked.1

  pub none_chosen : (ds : List Decision) → ((k : ℕ) → IsBlank t k → ⊥) → chosen w ds p ≡ None
  none_chosen ds none =
      ap (λ (cs : List Cell). best (plain.score w.way.measure w p) (candidates w.way.candidates (above_used w.fixed ds) cs)) (open_are ∙ ap (map (cell_of w)) (empty blanks (λ k i. none k (in_blank k i))))
      ∙ by w.way.candidates
    where
      empty : (ks : List ℕ) → ((k : ℕ) → IsAmong k ks → ⊥) → ks ≡ []
      empty [] h = refl
      empty (k ∷ ks) h = absurd (h k (inl refl))

      by : (a : Candidates) → best (plain.score w.way.measure w p) (candidates a (above_used w.fixed ds) []) ≡ None
      by All = refl
      by LeastIndex = refl
      by InUse = refl

pub picked_is_chosen : PickedIsChosen
picked_is_chosen w t ds k scored picked = picked_chosen w t scored ds k picked

pub none_is_chosen : NoneIsChosen
none_is_chosen w t ds scored none = none_chosen w t scored ds none
