-- How a measure's scores are had.
use Rattle.std.specs.Prelude.{ℕ, ◌≡◌, ◌<◌, Bool, true, false, List, length}
use Rattle.std.specs.List.{slice_index_or}
use Rattle.cell_choice.specs.Choosing.{is_up_to}
use Rattle.mace_cells.specs.Trails.{Partial}
use Rattle.mace_cells.specs.World.{World, many_cells}
use Rattle.mace_cells.specs.declared.way.CellMeasure.{CellMeasure}
use Rattle.mace_cells.specs.declared.way.CellMeasure.TheVariants.{First, MostOccurrences, MostAssigned, MostContradicted, MostCrossed}
use Rattle.mace_ground.specs.Cells.{Cell}
use Rattle.plain_search.specs.Lefts.{ValuesLeft}
use Rattle.plain_search.specs.Trying.{assignments, contradictions}
use Rattle.cell_search.specs.Choosing.{score_of}

-- whether the cells without a value are ranked by them, so that none has to be worked out
abbrev pub is_ranked : CellMeasure → Bool
is_ranked First = true
is_ranked MostOccurrences = false
is_ranked MostAssigned = false
is_ranked MostContradicted = false
is_ranked MostCrossed = true

-- what counts of the trials of a cell's values: how many other cells they assign together, or how
-- many of them meet a contradiction
abbrev pub by_trials : CellMeasure → ℕ → ℕ → ℕ
by_trials First assigned contradicted = 0
by_trials MostOccurrences assigned contradicted = 0
by_trials MostAssigned assigned contradicted = assigned
by_trials MostContradicted assigned contradicted = contradicted
by_trials MostCrossed assigned contradicted = 0

abbrev pub trial_score : World → ValuesLeft → Cell → ℕ
trial_score w p c = by_trials w.way.measure (assignments w p c) (contradictions w p c)

-- numbers are the scores of the cells without a value that have an index up to the limit
pub record AreScores (w : World) (t : Partial) (limit : ℕ) (scores : List ℕ) : Type 0 where
  pub many : length scores ≡ many_cells w
  pub each : (k : ℕ) → k < many_cells w → is_up_to t limit k ≡ true
      → slice_index_or scores k 0 ≡ score_of w t k
