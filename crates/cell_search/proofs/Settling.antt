-- A closed table in which no cell is to be chosen is a solution.
use Rattle.std.proofs.Common.{◌≡◌, ℕ, ◌<◌, List, [], ◌∷◌, Option, None, Some, inl, inr, refl, sym, ap, ◌∙◌, subst, arith}
use Rattle.std.specs.Option.{option_and_then}
use Rattle.std.proofs.lemmas.Option.{none-some, same_Some}
use Rattle.mace_cells.specs.Choices.{Decision}
use Rattle.mace_cells.specs.Trails.{Partial}
use Rattle.mace_cells.specs.World.{World, IsSettled, cell_of, many_cells}
use Rattle.mace_ground.specs.Cells.{value_at}
use Rattle.model_tables.specs.Size.{bound_of}
use Rattle.model_tables.specs.TablesLaws.{tables_lawful}
use Rattle.plain_search.proofs.Ending.{in_cells, none_open, single}
use Rattle.plain_search.proofs.Meeting.{settled_by_search}
use Rattle.plain_search.proofs.Rising.{IsBelow, all_left_table, below_twice, closure_below, put_below}
use Rattle.plain_search.proofs.Solved.{among_range, value_within}
use Rattle.plain_search.specs.Closing.{closure}
use Rattle.plain_search.specs.Coming.{closed_behind}
use Rattle.plain_search.specs.Lefts.{ValuesLeft, IsAmong, Extends, all_left, only_value, with_left}
use Rattle.plain_search.specs.Meeting.{WereLeft}
use Rattle.plain_search.specs.Trying.{chosen}
use Rattle.cell_search.proofs.Crossing.{range_below}
use Rattle.cell_search.proofs.Instances.{clauses_fit}
use Rattle.cell_search.proofs.Obeying.{table_of}
use Rattle.cell_search.proofs.Sounding.{cell_named}
use Rattle.cell_search.proofs.Tabling.{tables_extend, tables_within}
use Rattle.cell_search.proofs.Viewing.{view_has_values}
use Rattle.cell_search.specs.Finites.{finite_of, meaning_by_cells}
use Rattle.cell_search.specs.Full.{IsFull}
use Rattle.cell_search.specs.Losses.{decided_in}
use Rattle.cell_search.specs.Phases.{IsClosedTable}
use Rattle.cell_search.specs.Searchable.{HasAllCells}
use Rattle.cell_search.specs.Viewing.{number_of, left_at, left_by, left_in}

-- the table behind decisions has values that cells can have
pub behind_below : (w : World) → 0 < w.size → (ds : List Decision) → WereLeft w ds → (p : ValuesLeft) → closed_behind w ds ≡ Some p → IsBelow (all_left w) p
behind_below w some [] were p is = closure_below w (all_left w) p (all_left_table w some) is
behind_below w some (d ∷ ds) were p is =
    let q = were.0.0 in
    let before = behind_below w some ds were.2 q were.0.1.0 in
    let put : ValuesLeft = with_left q d.cell (d.value ∷ []) in
    let closes : closure w put ≡ Some p = sym (ap (option_and_then (λ x. closure w (with_left x d.cell (d.value ∷ [])))) were.0.1.0) ∙ is in
    let one = put_below (all_left w) q d.cell (d.value ∷ []) before (omega arith, tt) (omega arith) (λ x i. among_one q d x i were.0.1.1) in
    below_twice (all_left w) put p one (closure_below w put p one.0 closes)
  where
    among_one : (q : ValuesLeft) (d : Decision) (x : ℕ) → IsAmong x (d.value ∷ []) → IsAmong d.value (q d.cell) → IsAmong x (q d.cell)
    among_one q d x (inl same) left = subst (λ (y : ℕ). IsAmong y (q d.cell)) (sym same) left
    among_one q d x (inr none) left = absurd none

pub only_in : (us : List ℕ) (v : ℕ) → only_value us ≡ Some v → IsAmong v us
only_in [] v h = absurd (none-some v h)
only_in (u ∷ []) v h = inl (sym (same_Some u v h))
only_in (u ∷ x ∷ us) v h = absurd (none-some v h)

module _ (w : World) (t : Partial) (cells : HasAllCells w) (closed : IsClosedTable w t) (were : WereLeft w (decided_in w t.entries)) (none : chosen w (decided_in w t.entries) (left_in w t) ≡ None) where
  pub full_when_none : IsFull w t.entries
  full_when_none k few =
      let c = cell_of w k in
      let there = in_cells w 0 (many_cells w) k (omega arith) (omega (arith, few)) in
      let one = single (left_in w t c) (none_open w (decided_in w t.entries) (left_in w t) c none there) (table_of w t cells closed.well c).1 in
      let below = (behind_below w cells.some (decided_in w t.entries) were (left_in w t) closed.behind).1 c one.0 (only_in (left_in w t c) one.0 one.1) in
      let less = range_below 0 (bound_of w.size c.kind) one.0 below in
      (one.0, (sym (view_has_values w t cells closed.well k few) ∙ one.1, omega (arith, less)))

  extends_table : Extends w.size (meaning_by_cells w t.entries) (left_in w t)
  extends_table c below = by (number_of w c) refl
    where
      by : (o : Option ℕ) → number_of w c ≡ o → IsAmong (value_at (meaning_by_cells w t.entries) c) (left_by t (bound_of w.size c.kind) o)
      by None n =
          let less = value_within w.size (meaning_by_cells w t.entries) (tables_within w t.entries cells.some) (tables_lawful (finite_of w t.entries)) c.kind c.symbol c.arguments below in
          among_range (value_at (meaning_by_cells w t.entries) c) 0 (bound_of w.size c.kind) (omega arith) (omega (arith, less))
      by (Some k) n =
          let named = cell_named w c.kind c.symbol c.arguments k n in
          let v = full_when_none k named.0 in
          let has = tables_extend w t.entries cells.some cells.once full_when_none k v.0 named.0 v.1.0 in
          let here : value_at (meaning_by_cells w t.entries) c ≡ v.0 = sym (ap (value_at (meaning_by_cells w t.entries)) named.1) ∙ has in
          subst (λ (o : Option ℕ). IsAmong (value_at (meaning_by_cells w t.entries) c) (left_at t k (bound_of w.size c.kind) o)) (sym v.1.0) (inl here)

  pub settled_when_none : IsSettled w (decided_in w t.entries) (meaning_by_cells w t.entries)
  settled_when_none =
      settled_by_search w (decided_in w t.entries) (left_in w t) (meaning_by_cells w t.entries) cells.some (clauses_fit w w.clauses cells.clauses) were closed.behind none (tables_within w t.entries cells.some) (tables_lawful (finite_of w t.entries)) extends_table
