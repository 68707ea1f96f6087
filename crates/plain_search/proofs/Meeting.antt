-- Solutions that agree with decisions extend the table that these lead to.
use Rattle.std.proofs.Common.{◌≡◌, ℕ, zero, suc, ◌+◌, ◌<◌, ◌≤◌, nat_le, true, false, List, [], ◌∷◌, length, map, Option, None, Some, inl, inr, refl, sym, ap, ◌∙◌, subst, arith}
use Rattle.std.specs.List.{AllByRecursion, range_with_len}
use Rattle.std.specs.Option.{option_and_then}
use Rattle.std.proofs.lemmas.Bool.{le-leb}
use Rattle.std.proofs.lemmas.List.FromFn.{length-map-range_with_len}
use Rattle.std.proofs.lemmas.Option.{none-some}
use Rattle.fol_core.specs.Meaning.{Meaning}
use Rattle.mace_cells.proofs.Steps.{carried_itself, carried_both}
use Rattle.mace_cells.specs.Choices.{Decision, AgreesWith, IsUndecided}
use Rattle.mace_cells.specs.Numbers.{greatest_tried}
use Rattle.mace_cells.specs.Solutions.{AreIsomorphic}
use Rattle.mace_cells.specs.World.{World, Solves, AreAlike, IsBound, cell_of, many_cells}
use Rattle.mace_ground.specs.Cells.{Cell, value_at}
use Rattle.plain_search.proofs.Ending.{IsProper, all_proper, closure_proper, decided_proper, end_solves, in_cells, none_open, single}
use Rattle.plain_search.proofs.Narrowing.{closure_opens_none}
use Rattle.plain_search.proofs.Parting.{decided_below, has_value}
use Rattle.plain_search.proofs.Reaching.{IsIn, chosen_in, closed_there, fewer, filter_short, in_range, many_open, one_less, one_of_tried, opens_none_there}
use Rattle.plain_search.proofs.Rising.{IsBelow, all_left_table, below_twice, closure_below, only_of}
use Rattle.plain_search.proofs.Solved.{all_at_first, closure_so, some_element}
use Rattle.plain_search.proofs.Sounding.{IsKept, among_filter, narrowed_so, only_among}
use Rattle.plain_search.proofs.Stopping.{closure_is_closed}
use Rattle.plain_search.specs.Closing.{closure}
use Rattle.plain_search.specs.Coming.{closed_behind}
use Rattle.plain_search.specs.Fitting.{IsClauseOfCells}
use Rattle.plain_search.specs.Lefts.{ValuesLeft, IsAmong, Extends, all_left, only_value, with_left}
use Rattle.plain_search.specs.Meeting.{WereLeft, RefutedBySearch, NextBySearch, UndecidedBySearch, SettledBySearch, AllBound, LeavesCover}
use Rattle.plain_search.specs.Orders.{IsTable}
use Rattle.plain_search.specs.PlainLaws.{IsClosed, IsOneOf}
use Rattle.plain_search.specs.Trying.{is_open, all_cells, chosen, decide, tried, below, behind_closing, leaves_within}

-- a solution that agrees with decisions
module _ (w : World) (m : Meaning) (solves : Solves w m) where
  kept_behind : (ds : List Decision) → AgreesWith m ds → IsKept w.size m (closed_behind w ds)
  kept_behind [] agrees = closure_so w m (all_left w) solves (all_at_first w m solves)
  kept_behind (d ∷ ds) agrees = by (closed_behind w ds) (kept_behind ds agrees.1)
    where
      by : (o : Option ValuesLeft) → IsKept w.size m o → IsKept w.size m (option_and_then (λ p. closure w (with_left p d.cell (d.value ∷ []))) o)
      by None kept = kept
      by (Some p) kept = closure_so w m (with_left p d.cell (d.value ∷ [])) solves (narrowed_so w.size m p d.cell (d.value ∷ []) kept (inl agrees.0))

  extends_behind : (ds : List Decision) (p : ValuesLeft) → AgreesWith m ds → closed_behind w ds ≡ Some p → Extends w.size m p
  extends_behind ds p agrees is = subst (IsKept w.size m) is (kept_behind ds agrees)

pub refuted_by_search : RefutedBySearch
refuted_by_search w ds is m solves agrees = subst (IsKept w.size m) is (kept_behind w m solves ds agrees)

pub next_by_search : NextBySearch
next_by_search w ds p c from most None is below first =
    λ m solves agrees low high. first (value_at m c) (extends_behind w m solves ds p agrees is c below) low (omega (arith, high))
next_by_search w ds p c from most (Some u) is below first =
    (first.1, first.2, λ m solves agrees low high. first.3 (value_at m c) (extends_behind w m solves ds p agrees is c below) low high)

-- the cells of decisions have the values that were decided
abbrev AreGiven : ValuesLeft → List Decision → Type 0
AreGiven p [] = Unit {0}
AreGiven p (d ∷ ds) = (only_value (p d.cell) ≡ Some d.value) × AreGiven p ds

given_below : (p q : ValuesLeft) → IsBelow p q → (ds : List Decision) → AreGiven p ds → AreGiven q ds
given_below p q inside [] given = tt
given_below p q inside (d ∷ ds) given =
    (only_of 0 d.value (q d.cell) (p d.cell) (inside.0 d.cell).0 (inside.0 d.cell).1 (inside.1 d.cell) given.0, given_below p q inside ds given.1)

given_behind : (w : World) → 0 < w.size → (ds : List Decision) → WereLeft w ds → (p : ValuesLeft) → closed_behind w ds ≡ Some p → IsTable p × AreGiven p ds
given_behind w some [] were p is = ((closure_below w (all_left w) p (all_left_table w some) is).0, tt)
given_behind w some (d ∷ ds) were p is =
    let q = were.0.0 in
    let before = given_behind w some ds were.2 q were.0.1.0 in
    let then_closed : closure w (with_left q d.cell (d.value ∷ [])) ≡ Some p =
    sym (ap (option_and_then (λ x. closure w (with_left x d.cell (d.value ∷ [])))) were.0.1.0) ∙ is in
    let one = decided_below q d.cell d.value before.0 were.0.1.1 in
    let inside = closure_below w (with_left q d.cell (d.value ∷ [])) p one.0 then_closed in
    (inside.0, (has_value q p d.cell d.value inside, given_below q p (below_twice q (with_left q d.cell (d.value ∷ [])) p one inside) ds before.1))

open_has_none : (v : ℕ) (us : List ℕ) → is_open us ≡ true → only_value us ≡ Some v → ⊥
open_has_none v [] two one = absurd (none-some _ one)
open_has_none v (u ∷ []) two one = absurd (let e : false ≡ true = two in cc)
open_has_none v (u ∷ x ∷ us) two one = none-some _ one

undecided : (p : ValuesLeft) (c : Cell) → is_open (p c) ≡ true → (ds : List Decision) → AreGiven p ds → IsUndecided ds c
undecided p c two [] given = tt
undecided p c two (d ∷ ds) given =
    ((λ same. open_has_none d.value (p c) two (subst (λ (x : Cell). only_value (p x) ≡ Some d.value) same given.0)), undecided p c two ds given.1)

pub undecided_by_search : UndecidedBySearch
undecided_by_search w ds p c some were is two = undecided p c two ds (given_behind w some ds were p is).1

-- the table is proper and closed
abbrev IsFair : World → ValuesLeft → Type 0
IsFair w p = IsProper w p × IsClosed w p

fair_behind : (w : World) → 0 < w.size → AllByRecursion (IsClauseOfCells w) w.clauses → (ds : List Decision) (p : ValuesLeft) → closed_behind w ds ≡ Some p → IsFair w p
fair_behind w some fits [] p is =
    let proper = all_proper w some in
    (closure_proper w (all_left w) p is proper, closure_is_closed w (all_left w) p fits (λ c. (proper c).1) is)
fair_behind w some fits (d ∷ ds) p is = by (closed_behind w ds) refl is (fair_behind w some fits ds)
  where
    by : (o : Option ValuesLeft) → closed_behind w ds ≡ o → option_and_then (λ x. closure w (with_left x d.cell (d.value ∷ []))) o ≡ Some p
        → ((q : ValuesLeft) → closed_behind w ds ≡ Some q → IsFair w q) → IsFair w p
    by None e after rest = absurd (none-some _ after)
    by (Some q) e after rest =
        let put : ValuesLeft = with_left q d.cell (d.value ∷ []) in
        let proper : IsProper w put = decided_proper w q d.cell d.value (rest q e).0 in
        (closure_proper w put p after proper, closure_is_closed w put p fits (λ c. (proper c).1) after)

agrees_where_given : (w : World) (m : Meaning) (p : ValuesLeft) → Extends w.size m p → (ds : List Decision) → WereLeft w ds → AreGiven p ds → AgreesWith m ds
agrees_where_given w m p extended [] were given = tt
agrees_where_given w m p extended (d ∷ ds) were given =
    (only_among (p d.cell) (value_at m d.cell) d.value given.0 (extended d.cell were.1), agrees_where_given w m p extended ds were.2 given.1)

pub settled_by_search : SettledBySearch
settled_by_search w ds p m some fits were is none size lawful extended = (
  end_solves w fits m size lawful p (fair.0, fair.1, (ds, none)) extended,
  agrees_where_given w m p extended ds were (given_behind w some ds were p is).1,
  (λ u solves agrees k few. same u solves agrees k few),
)
  where
    fair : IsFair w p
    fair = fair_behind w some fits ds p is

    same : (u : Meaning) → Solves w u → AgreesWith u ds → AreAlike w u m
    same u solves agrees k few =
        let c : Cell = cell_of w k in
        let i = in_cells w 0 (many_cells w) k (omega arith) (omega (arith, few)) in
        let inside = in_range w c 0 (many_cells w) some (omega arith) i in
        let v = single (p c) (none_open w ds p c none i) (fair.0 c).0 in
        only_among (p c) (value_at u c) v.0 v.1 (extends_behind w u solves ds p agrees is c inside)
        ∙ sym (only_among (p c) (value_at m c) v.0 v.1 (extended c inside))

-- a cell among some has one of their numbers
numbered : (w : World) (c : Cell) (a n : ℕ) → IsIn c (map (cell_of w) (range_with_len a n)) → (k : ℕ) × ((c ≡ cell_of w k) × (k < a + n))
numbered w c a zero i = absurd i
numbered w c a (suc n) (inl e) = (a, (e, omega arith))
numbered w c a (suc n) (inr i) = let k = numbered w c (a + 1) n i in let few = k.1.1 in (k.0, (k.1.0, omega (arith, few)))

module _ (w : World) (bounds : AllBound w) where
  -- a solution is isomorphic to one that extends one of these tables
  abbrev IsCovered : Meaning → List ValuesLeft → Type 0
  IsCovered m ps = (u : Meaning) × (Solves w u × ((p : ValuesLeft) × (IsOneOf p ps × Extends w.size u p)) × AreIsomorphic w.fixed m u)

  abbrev Covers : ℕ → Type 0
  Covers k = (ds : List Decision) (p : ValuesLeft) → closed_behind w ds ≡ closure w p → many_open w p < k → (m : Meaning) → Solves w m → AgreesWith m ds → IsCovered m (leaves_within k w ds p)

  covered_below : (k : ℕ) → Covers k → (ds : List Decision) (q : ValuesLeft) → closed_behind w ds ≡ Some q → many_open w q < suc k → (o : Option Cell) → chosen w ds q ≡ o
      → (m : Meaning) → Solves w m → AgreesWith m ds → IsCovered m (below (leaves_within k w) w ds q o)
  unfolding many_open
  covered_below k covers ds q is few None e m solves agrees = (m, (solves, (q, (inl refl, extends_behind w m solves ds q agrees is)), carried_itself w.fixed m))
  covered_below k covers ds q is few (Some c) e m solves agrees =
      let there = chosen_in w ds q c e in
      let number = numbered w c 0 (many_cells w) there.0 in
      let in_cells_of = number.1.1 in
      let bound : IsBound w ds c (greatest_tried w ds c) =
      subst (λ (x : Cell). IsBound w ds x (greatest_tried w ds x)) (sym number.1.0) (bounds ds number.0 (omega (arith, in_cells_of))) in
      let other = bound m solves agrees in
      let v = value_at other.0 c in
      let inside = in_range w c 0 (many_cells w) (some_element w m solves) (omega arith) there.0 in
      let among : IsAmong v (tried w ds q c) =
      among_filter (λ x. nat_le x (greatest_tried w ds c)) v (q c) (le-leb v (greatest_tried w ds c) other.1.1.1) (extends_behind w other.0 other.1.0 ds q other.1.1.0 is c inside) in
      let less : many_open w (with_left q c (v ∷ [])) < many_open w q =
      one_less (λ d. is_open (with_left q c (v ∷ []) d)) (λ d. is_open (q d)) c (all_cells w) (opens_none_there q c v) (closed_there q c v) there.1 there.0 in
      let rest = covers (decide c v ∷ ds) (with_left q c (v ∷ [])) (ap (option_and_then (λ x. closure w (with_left x c (v ∷ [])))) is) (omega (arith, less, few)) other.0 other.1.0 (refl, other.1.1.0) in
      let leaf = rest.1.1 in
      (rest.0, (rest.1.0, (leaf.0, (one_of_tried (λ x. leaves_within k w (decide c x ∷ ds) (with_left q c (x ∷ []))) leaf.0 v (tried w ds q c) among leaf.1.0, leaf.1.1)), carried_both w.fixed m other.0 rest.0 other.1.2 rest.1.2))

  covered_behind : (k : ℕ) → Covers k → (ds : List Decision) (p : ValuesLeft) → many_open w p < suc k → (o : Option ValuesLeft) → closure w p ≡ o → closed_behind w ds ≡ o
      → (m : Meaning) → Solves w m → AgreesWith m ds → IsCovered m (behind_closing (leaves_within k w) w ds o)
  unfolding many_open
  covered_behind k covers ds p few None e is m solves agrees = absurd (subst (IsKept w.size m) is (kept_behind w m solves ds agrees))
  covered_behind k covers ds p few (Some q) e is m solves agrees =
      let no_more : many_open w q ≤ many_open w p = fewer (λ d. is_open (q d)) (λ d. is_open (p d)) (all_cells w) (closure_opens_none w p q e) in
      covered_below k covers ds q is (omega (arith, no_more, few)) (chosen w ds q) refl m solves agrees

  covers_all : (k : ℕ) → Covers k
  covers_all zero ds p is few m solves agrees = absurd (omega (arith, few))
  covers_all (suc k) ds p is few m solves agrees = covered_behind k (covers_all k) ds p few (closure w p) refl is m solves agrees

pub leaves_cover : LeavesCover
unfolding many_open
leaves_cover w bounds m solves any =
    let all : length (all_cells w) ≡ many_cells w = length-map-range_with_len (cell_of w) 0 (many_cells w) in
    let some = filter_short (λ c. is_open (all_left w c)) (all_cells w) in
    covers_all w bounds (suc (many_cells w)) [] (all_left w) refl (omega (arith, all, some)) m solves tt
