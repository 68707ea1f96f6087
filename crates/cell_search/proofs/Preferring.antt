-- The cell that is chosen.
use Rattle.std.proofs.Common.{◌≡◌, ℕ, ◌<◌, true, List, length, get_or, Option, None, Some, MatchOption, ap, ◌∙◌, subst, arith}
use Rattle.std.specs.List.{slice_index_or}
use Rattle.std.proofs.Math.ListN.{get_or-map}
use Rattle.cell_choice.proofs.Picking.{candidate_blank, highest_is_some, highest_picked, picked_alike, picked_as, picked_blank, up_to_is}
use Rattle.cell_choice.proofs.Shaping.{index_is, shapes_many}
use Rattle.cell_choice.specs.Choosing.{IsCandidate, IsHighest, IsLimit, IsPicked, index_by, is_up_to}
use Rattle.cell_choice.specs.Shapes.{cell_shapes, index_in}
use Rattle.fol_core.specs.declared.symbols.Kind.TheVariants.{Function}
use Rattle.cell_choice.specs.declared.shape.CellShape.{CellShape}
use Rattle.mace_cells.specs.Choices.{Decision}
use Rattle.mace_cells.specs.Numbers.{above_used}
use Rattle.mace_cells.specs.Trails.{Partial, Ranking, IsBlank, score, value_in}
use Rattle.mace_cells.specs.World.{World, many_cells}
use Rattle.cell_search.proofs.Scoring.{is_scored}
use Rattle.cell_search.specs.Choosing.{IsPickedBehind, score_of}
use Rattle.cell_search.specs.Losses.{IsBoard}
use Rattle.cell_search.specs.Scores.{AreScores, is_ranked}
use Rattle.cell_search.specs.Searchable.{HasAllCells}

pub many_shapes : (w : World) (shapes : List CellShape) → shapes ≡ cell_shapes w.size w.blocks → length shapes ≡ many_cells w
many_shapes w shapes is = ap (λ (ss : List CellShape). length ss) is ∙ shapes_many w.size w.blocks

module _ (w : World) (t : Partial) (board : IsBoard w t) where
  same_index : (k : ℕ) → k < t.many → index_by t k ≡ index_in w k
  same_index k h =
      ap (λ (r : Ranking). get_or r.indices k 0) board.ranking ∙ get_or-map (λ s. s.above) (cell_shapes w.size w.blocks) k (record { kind = Function; above = 0 }) ∙ index_is w.size w.blocks k (omega (arith, h, board.many))

  -- a cell that is picked by scores that are those of the plain search, where it is a candidate
  pub picked_in : (score : ℕ → ℕ) (used k : ℕ) → ((j : ℕ) → IsBlank t j → IsCandidate (index_by t) t w.way.candidates used j → score j ≡ score_of w t j)
      → IsPicked (index_by t) t score w.way.candidates used k → IsPicked (index_in w) t (score_of w t) w.way.candidates used k
  picked_in score used k same h =
      picked_alike (index_by t) (index_in w) t (score_of w t) w.way.candidates used k same_index
      (picked_as (index_by t) t score (score_of w t) w.way.candidates used k (λ j chosen. same j (candidate_blank (index_by t) t w.way.candidates used j chosen) chosen) h)

  -- by what the trail counts
  pub ranked_in : (used k : ℕ) → is_ranked w.way.measure ≡ true → HasAllCells w → IsPicked (index_by t) t (score t t.ranking.counts) w.way.candidates used k → IsPicked (index_in w) t (score_of w t) w.way.candidates used k
  ranked_in used k ranked cells h =
      picked_in (score t t.ranking.counts) used k
      (λ j blank chosen.
      let few = blank.0 in
      let many = board.many in
      ap (λ (r : Ranking). score t r.counts j) board.ranking ∙ is_scored w t j cells board.stride board.once (omega (arith, few, many)) blank.1 w.way.measure ranked) h

  -- or by scores that were worked out
  pub scored_in : (used limit k : ℕ) (scores : List ℕ) → IsLimit (index_by t) t w.way.candidates used limit → AreScores w t limit scores → IsHighest (is_up_to t limit) (λ j. slice_index_or scores j 0) t.many (Some k)
      → IsPicked (index_in w) t (score_of w t) w.way.candidates used k
  scored_in used limit k scores bound are highest =
      picked_in (λ j. slice_index_or scores j 0) used k
      (λ j blank chosen.
      let few = blank.0 in
      let many = board.many in
      are.each j (omega (arith, few, many)) (up_to_is t limit j blank (bound.none_beyond j chosen)))
      (highest_picked t (λ j. slice_index_or scores j 0) w.way.candidates used limit k bound highest)

  pub picked_within : (score : ℕ → ℕ) (used k : ℕ) → IsPicked (index_in w) t score w.way.candidates used k → k < many_cells w
  picked_within score used k h = let blank = picked_blank (index_in w) t score w.way.candidates used k h in omega (arith, blank.0, board.many)

  pub picked_open : (score : ℕ → ℕ) (used k : ℕ) → IsPicked (index_in w) t score w.way.candidates used k → value_in t.entries k ≡ None
  picked_open score used k h = (picked_blank (index_in w) t score w.way.candidates used k h).1

  -- what is picked behind the decisions
  pub ranked_behind : (used : ℕ) (o : Option ℕ) (ds : List Decision) → used ≡ above_used w.fixed ds → is_ranked w.way.measure ≡ true → HasAllCells w
      → MatchOption o ((k : ℕ) → IsBlank t k → ⊥) (IsPicked (index_by t) t (score t t.ranking.counts) w.way.candidates used) → IsPickedBehind w t ds o
  ranked_behind used None ds same ranked cells h = h
  ranked_behind used (Some k) ds same ranked cells h = subst (λ (u : ℕ). IsPicked (index_in w) t (score_of w t) w.way.candidates u k) same (ranked_in used k ranked cells h)

  pub scored_behind : (used limit : ℕ) (o : Option ℕ) (scores : List ℕ) (ds : List Decision) → used ≡ above_used w.fixed ds → IsLimit (index_by t) t w.way.candidates used limit → AreScores w t limit scores
      → IsHighest (is_up_to t limit) (λ j. slice_index_or scores j 0) t.many o → IsPickedBehind w t ds o
  scored_behind used limit None scores ds same bound are highest = absurd (highest_is_some t (λ j. slice_index_or scores j 0) w.way.candidates used limit bound highest)
  scored_behind used limit (Some k) scores ds same bound are highest = subst (λ (u : ℕ). IsPicked (index_in w) t (score_of w t) w.way.candidates u k) same (scored_in used limit k scores bound are highest)
