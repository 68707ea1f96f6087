-- How the logic stores what a search is about, and where it stands.
use Rattle.std.specs.Prelude.{ℕ, ◌≡◌, ◌==◌, if◌then◌else◌, Bool, true, false, List, Option, refl}
use Rattle.std.specs.Coded.{Coded, code_by, coded×, coded_ℕ, coded_bool, coded_list, coded_option}
use Rattle.mace_cells.specs.declared.way.Candidates.{Candidates}
use Rattle.mace_cells.specs.declared.way.Candidates.TheVariants.{All, LeastIndex, InUse}
use Rattle.mace_cells.specs.declared.way.CellMeasure.{CellMeasure}
use Rattle.mace_cells.specs.declared.way.CellMeasure.TheVariants.{First, MostOccurrences, MostAssigned, MostContradicted, MostCrossed}
use Rattle.mace_cells.specs.declared.way.Way.{Way}
use Rattle.fol_core.specs.LitCodes.{coded_clause}
use Rattle.fol_core.specs.Literals.{ClauseTree}
use Rattle.fol_problem.specs.StatedCodes.{coded_kind}
use Rattle.fol_core.specs.declared.symbols.Kind.{Kind}
use Rattle.mace_cells.specs.Choices.{Choice}
use Rattle.mace_cells.specs.Trails.{Partial, Ranking, partial}
use Rattle.mace_cells.specs.World.{World}
use Rattle.mace_cells.specs.declared.trail.TrailEntry.{TrailEntry}
use Rattle.mace_ground.specs.Cells.{Block, Cell, cell}
use Rattle.mace_ground.specs.GroundCodes.{coded_block}
use Rattle.model_tables.specs.Tables.{Finite}
use Rattle.model_tables.specs.TablesCodes.{coded_finite}
use Rattle.cell_search.specs.Courses.{Course}
use Rattle.cell_search.specs.Positions.{BoardPosition, position}

abbrev candidates_tag : Candidates → ℕ
candidates_tag All = 0
candidates_tag LeastIndex = 1
candidates_tag InUse = 2

abbrev candidates_from : ℕ → Candidates
candidates_from n = if n == 0 then All else (if n == 1 then LeastIndex else InUse)

pub candidates_back : (c : Candidates) → candidates_from (candidates_tag c) ≡ c
candidates_back All = refl
candidates_back LeastIndex = refl
candidates_back InUse = refl

abbrev measure_tag : CellMeasure → ℕ
measure_tag First = 0
measure_tag MostOccurrences = 1
measure_tag MostAssigned = 2
measure_tag MostContradicted = 3
measure_tag MostCrossed = 4

abbrev measure_from : ℕ → CellMeasure
measure_from n =
    if n == 0 then First
    else (if n == 1 then MostOccurrences
    else (if n == 2 then MostAssigned else (if n == 3 then MostContradicted else MostCrossed)))

pub measure_back : (m : CellMeasure) → measure_from (measure_tag m) ≡ m
measure_back First = refl
measure_back MostOccurrences = refl
measure_back MostAssigned = refl
measure_back MostContradicted = refl
measure_back MostCrossed = refl

abbrev way_from : Candidates → CellMeasure → Bool → Way
way_from c m least = record { candidates = c; measure = m; least_numbers = least }

abbrev pub coded_way : Coded Way
coded_way =
    code_by (ℕ × (ℕ × Bool)) (coded× coded_ℕ (coded× coded_ℕ coded_bool))
    (λ w. (candidates_tag w.candidates, (measure_tag w.measure, w.least_numbers)))
    (λ p. way_from (candidates_from p.0) (measure_from p.1.0) p.1.1)
    (λ w i. way_from (candidates_back w.candidates i) (measure_back w.measure i) w.least_numbers)

abbrev pub coded_world : Coded World
coded_world =
    code_by ((ℕ × ℕ) × (List ClauseTree × (List Block × Way)))
    (coded× (coded× coded_ℕ coded_ℕ)
    (coded× (coded_list coded_clause) (coded× (coded_list coded_block) coded_way)))
    (λ w. ((w.size, w.fixed), (w.clauses, (w.blocks, w.way))))
    (λ p. record {
      size = p.0.0;
      fixed = p.0.1;
      clauses = p.1.0;
      blocks = p.1.1.0;
      way = p.1.1.1;
    }) (λ _. refl)

abbrev pub coded_entry : Coded TrailEntry
coded_entry =
    code_by ((ℕ × ℕ) × (Bool × ℕ)) (coded× (coded× coded_ℕ coded_ℕ) (coded× coded_bool coded_ℕ))
    (λ e. ((e.cell, e.value), (e.decided, e.mark)))
    (λ p. record { cell = p.0.0; value = p.0.1; decided = p.1.0; mark = p.1.1 }) (λ _. refl)

abbrev pub coded_ranking : Coded Ranking
coded_ranking =
    code_by (List ℕ × Bool) (coded× (coded_list coded_ℕ) coded_bool)
    (λ r. (r.indices, r.counts)) (λ p. record { indices = p.0; counts = p.1 }) (λ _. refl)

abbrev pub coded_partial : Coded Partial
coded_partial =
    code_by ((ℕ × (ℕ × Ranking)) × (List TrailEntry × List ℕ))
    (coded× (coded× coded_ℕ (coded× coded_ℕ coded_ranking))
    (coded× (coded_list coded_entry) (coded_list coded_ℕ)))
    (λ t. ((t.many, (t.stride, t.ranking)), (t.entries, t.crossings)))
    (λ p. partial p.0.0 p.0.1.0 p.0.1.1 p.1.0 p.1.1) (λ _. refl)

abbrev pub coded_position : Coded BoardPosition
coded_position =
    code_by (World × Partial) (coded× coded_world coded_partial) (λ s. (s.world, s.table))
    (λ p. position p.0 p.1) (λ _. refl)

abbrev pub coded_cell : Coded Cell
coded_cell =
    code_by (Kind × (ℕ × List ℕ)) (coded× coded_kind (coded× coded_ℕ (coded_list coded_ℕ)))
    (λ c. (c.kind, (c.symbol, c.arguments))) (λ p. cell p.0 p.1.0 p.1.1) (λ _. refl)

abbrev pub coded_choice : Coded Choice
coded_choice =
    code_by (Cell × (ℕ × ℕ)) (coded× coded_cell (coded× coded_ℕ coded_ℕ))
    (λ c. (c.cell, (c.value, c.most))) (λ p. record { cell = p.0; value = p.1.0; most = p.1.1 })
    (λ _. refl)

abbrev pub coded_course : Coded Course
coded_course =
    code_by ((World × Bool) × ((List Choice × (Partial × Finite)) × (Option ℕ × Option ℕ)))
    (coded× (coded× coded_world coded_bool)
    (coded× (coded× (coded_list coded_choice) (coded× coded_partial coded_finite))
    (coded× (coded_option coded_ℕ) (coded_option coded_ℕ))))
    (λ s. ((s.world, s.live), ((s.choices, (s.table, s.tables)), (s.stop, s.late))))
    (λ p. record {
      world = p.0.0;
      live = p.0.1;
      choices = p.1.0.0;
      table = p.1.0.1.0;
      tables = p.1.0.1.1;
      stop = p.1.1.0;
      late = p.1.1.1;
    }) (λ _. refl)
