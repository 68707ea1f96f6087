-- What is asked of a search.
use Rattle.std.specs.Prelude.{ℕ, ◌+◌, ◌*◌, Option, None, Some, unwrap_or, is_some, ◌||◌, ◌==◌, if◌then◌else◌}
use Rattle.std.specs.Option.{option_or}
use Rattle.ladr_mace4.specs.declared.plan.Plan.{Plan}
use Rattle.ladr_options.specs.declared.options.Options.{Options}
use Rattle.ladr_words.specs.declared.task.ModelOptions.{ModelOptions}
use Rattle.mace_cells.specs.declared.way.Candidates.{Candidates}
use Rattle.mace_cells.specs.declared.way.Candidates.TheVariants.{All, LeastIndex, InUse}
use Rattle.mace_cells.specs.declared.way.CellMeasure.{CellMeasure}
use Rattle.mace_cells.specs.declared.way.CellMeasure.TheVariants.{First, MostOccurrences, MostAssigned, MostContradicted, MostCrossed}
use Rattle.mace_cells.specs.declared.way.Way.{Way}
use Rattle.search_clock.specs.Watching.{seconds_of}

-- The one size that an input asks for by `domain_size`, if it isn't 0; a word for the first or for
-- the last size cancels it.
abbrev pub only_size : ModelOptions → Options → Option ℕ
only_size words o =
    if is_some words.start_size || is_some words.end_size || o.domain_size == 0 then None
    else Some o.domain_size

-- how cells are chosen by an input's `selection_order`, `selection_measure` and `lnh`
abbrev pub candidates_of : ℕ → Candidates
candidates_of order = if order == 0 then All else (if order == 1 then LeastIndex else InUse)

abbrev pub measure_of : ℕ → CellMeasure
measure_of number =
    if number == 0 then First
    else (if number == 1 then MostOccurrences
    else (if number == 2 then MostAssigned
    else (if number == 3 then MostContradicted else MostCrossed)))

abbrev pub way_of : Options → Way
way_of o = record {
  candidates = candidates_of o.selection_order;
  measure = measure_of o.selection_measure;
  least_numbers = o.lnh;
}

-- The words stand in place of the input's options. The sizes are the one that is asked for, or
-- those from the first to the last.
abbrev pub plan_of : ModelOptions → Options → Plan
plan_of words o = record {
  start = unwrap_or (only_size words o) (unwrap_or words.start_size o.start_size);
  end = unwrap_or (only_size words o) (unwrap_or words.end_size o.end_size);
  step = o.increment;
  wanted = unwrap_or words.max_models o.max_models;
  seconds = option_or words.max_seconds (seconds_of o);
  megs = o.max_megs;
  way = way_of o;
}

-- the size behind so many others
abbrev pub size_behind : Plan → ℕ → ℕ
size_behind s count = s.start + count * s.step
