-- What a closed table tells the search.
use Rattle.std.proofs.Common.{◌≡◌, ℕ, ◌+◌, ◌*◌, ◌<◌, true, false, not, List, ◌∷◌, length, Option, None, Some, sym, ap, ◌∙◌, subst, arith}
use Rattle.std.specs.List.{range_with_len}
use Rattle.cell_choice.specs.Choosing.{IsPicked}
use Rattle.cell_choice.specs.Shapes.{index_in}
use Rattle.cell_driver.specs.Boards.{HasNext, IsAsSaid, IsBehind, StandsAs}
use Rattle.cell_driver.specs.declared.board.Status.TheVariants.{Choose, Settled}
use Rattle.mace_cells.specs.Numbers.{above_used}
use Rattle.mace_cells.specs.Trails.{Partial, IsBlank, value_in, is_struck_off}
use Rattle.mace_cells.specs.World.{World, IsNextValue, cell_of, many_cells}
use Rattle.model_tables.specs.Size.{bound_of}
use Rattle.plain_search.proofs.Meeting.{next_by_search}
use Rattle.plain_search.proofs.Rising.{passed}
use Rattle.plain_search.proofs.Solved.{among_range}
use Rattle.plain_search.proofs.Sounding.{among_filter}
use Rattle.plain_search.specs.Coming.{IsFirst}
use Rattle.plain_search.specs.Lefts.{IsAmong}
use Rattle.plain_search.specs.Meeting.{WereLeft}
use Rattle.cell_search.proofs.Boarding.{undecided_by}
use Rattle.cell_search.proofs.Bounding.{arguments_below}
use Rattle.cell_search.proofs.Choosing.{none_is_chosen, picked_is_chosen}
use Rattle.cell_search.proofs.Crossing.{range_below}
use Rattle.cell_search.proofs.Filling.{decided_few}
use Rattle.cell_search.proofs.Following.{left_blank}
use Rattle.cell_search.proofs.Obeying.{table_of}
use Rattle.cell_search.proofs.Settling.{full_when_none, settled_when_none}
use Rattle.cell_search.proofs.Tabling.{cells_differ, tables_whole}
use Rattle.cell_search.specs.Choosing.{IsTableOf, score_of}
use Rattle.cell_search.specs.Finites.{AreTablesFor, finite_of, meaning_by_cells}
use Rattle.cell_search.specs.Losses.{IsBoard, decided_in}
use Rattle.cell_search.specs.Phases.{IsClosedTable}
use Rattle.cell_search.specs.Positions.{IsLeast}
use Rattle.cell_search.specs.Searchable.{HasAllCells}
use Rattle.cell_search.specs.Viewing.{left_in, uncrossed}

-- the least value that isn't crossed off is the first that is left
pub least_first : (t : Partial) (k from most end : ℕ) (o : Option ℕ) → IsLeast t k from most end o → IsFirst (uncrossed t k end) from most o
least_first t k from most end None least = λ v i low high.
    let p = passed (λ x. not (is_struck_off (k * t.stride + x) t.crossings)) v (range_with_len 0 end) i in
    let less = range_below 0 end v p.0 in
    let struck = least v low (omega (arith, high, less)) in
    let e : true ≡ false = sym p.1 ∙ ap not struck in
    cc
least_first t k from most end (Some u) least = (
  among_filter (λ x. not (is_struck_off (k * t.stride + x) t.crossings)) u (range_with_len 0 end) (ap not least.4) (among_range u 0 end (omega arith) (let less = least.2 in omega (arith, less))),
  least.0,
  least.1,
  λ v i low high.
      let p = passed (λ x. not (is_struck_off (k * t.stride + x) t.crossings)) v (range_with_len 0 end) i in
      let struck = least.3 v low high in
      let e : true ≡ false = sym p.1 ∙ ap not struck in
      cc,
)

module _ (w : World) (t : Partial) (board : IsBoard w t) (cells : HasAllCells w) (closed : IsClosedTable w t) where
  pub behind_table : IsBehind w (decided_in w t.entries) (left_in w t)
  behind_table = (closed.behind, table_of w t cells closed.well)

  is_table : IsTableOf w t
  is_table = record { cells = cells; many = board.many; well = closed.well }

  pub stands_chosen : (k : ℕ) → IsPicked (index_in w) t (score_of w t) w.way.candidates (above_used w.fixed (decided_in w t.entries)) k → StandsAs w (decided_in w t.entries) (Choose k)
  stands_chosen k picked = (left_in w t, (behind_table, picked_is_chosen w t (decided_in w t.entries) k is_table picked))

  pub stands_settled : ((k : ℕ) → IsBlank t k → ⊥) → StandsAs w (decided_in w t.entries) Settled
  stands_settled none = (left_in w t, (behind_table, none_is_chosen w t (decided_in w t.entries) is_table none))

  pub told_settled : WereLeft w (decided_in w t.entries) → ((k : ℕ) → IsBlank t k → ⊥) → IsAsSaid w (decided_in w t.entries) (meaning_by_cells w t.entries) Settled
  told_settled were none = settled_when_none w t cells closed were (none_is_chosen w t (decided_in w t.entries) is_table none)

  pub full_settled : WereLeft w (decided_in w t.entries) → ((k : ℕ) → IsBlank t k → ⊥) → AreTablesFor w (finite_of w t.entries)
  full_settled were none = tables_whole w t.entries cells.some (full_when_none w t cells closed were (none_is_chosen w t (decided_in w t.entries) is_table none))

  pub told_chosen : (k : ℕ) → k < many_cells w → value_in t.entries k ≡ None → length t.entries < t.many → IsAsSaid w (decided_in w t.entries) (meaning_by_cells w t.entries) (Choose k)
  told_chosen k few blank room =
      let less = decided_few w t.entries in
      let many = board.many in
      (few, omega (arith, less, room, many), undecided_by w (cells_differ w cells.once cells.some) t.entries k board.fresh few blank)

  first_of : (k from most : ℕ) (o : Option ℕ) → k < many_cells w → value_in t.entries k ≡ None → IsLeast t k from most (bound_of w.size (cell_of w k).kind) o → IsFirst (left_in w t (cell_of w k)) from most o
  first_of k from most o few blank least =
      subst (λ (us : List ℕ). IsFirst us from most o) (sym (left_blank w t cells k few blank)) (least_first t k from most (bound_of w.size (cell_of w k).kind) o least)

  pub has_next : (k from most : ℕ) (o : Option ℕ) → k < many_cells w → value_in t.entries k ≡ None → IsLeast t k from most (bound_of w.size (cell_of w k).kind) o → HasNext w (decided_in w t.entries) (cell_of w k) from most o
  has_next k from most o few blank least = (left_in w t, (behind_table, first_of k from most o few blank least))

  pub is_next : (k from most : ℕ) (o : Option ℕ) → k < many_cells w → value_in t.entries k ≡ None → IsLeast t k from most (bound_of w.size (cell_of w k).kind) o → IsNextValue w (decided_in w t.entries) (cell_of w k) from most o
  is_next k from most o few blank least =
      next_by_search w (decided_in w t.entries) (left_in w t) (cell_of w k) from most o closed.behind (arguments_below w.size w.blocks k cells.some few) (first_of k from most o few blank least)

  pub is_left : (k from most u : ℕ) → k < many_cells w → value_in t.entries k ≡ None → IsLeast t k from most (bound_of w.size (cell_of w k).kind) (Some u) → IsAmong u (left_in w t (cell_of w k))
  is_left k from most u few blank least = (first_of k from most (Some u) few blank least).0

  pub were_decided : (k v : ℕ) → k < many_cells w → IsAmong v (left_in w t (cell_of w k)) → WereLeft w (decided_in w t.entries) → WereLeft w (record { cell = cell_of w k; value = v } ∷ decided_in w t.entries)
  were_decided k v few left were = ((left_in w t, (closed.behind, left)), arguments_below w.size w.blocks k cells.some few, were)
