-- The course of a search.
use Rattle.std.specs.Prelude.{ℕ, zero, suc, ◌≡◌, ◌<◌, Bool, true, false, max, List, [], length, Option, None, Some}
use Rattle.cell_choice.specs.Shapes.{ranking_of}
use Rattle.fol_core.specs.SymbolTable.{Symbol}
use Rattle.fol_core.specs.declared.clause.Clauses.{Clauses}
use Rattle.ladr_io.specs.Times.{Times}
use Rattle.mace_cells.specs.Choices.{Choice, decisions}
use Rattle.mace_cells.specs.Leaves.{LeavesOpen, FindsModel, IsOver}
use Rattle.mace_cells.specs.Trails.{Partial, partial}
use Rattle.mace_cells.specs.World.{World, many_cells}
use Rattle.mace_cells.specs.declared.way.Way.{Way}
use Rattle.mace_cells.specs.declared.frame.Frame.{Frame}
use Rattle.mace_ground.specs.Count.{blocks_in, clause_trees}
use Rattle.ladr_io.specs.Watch.{IsEarly, IsLate}
use Rattle.mace_search.specs.declared.answer.SearchAnswer.{SearchAnswer}
use Rattle.mace_search.specs.declared.answer.SearchAnswer.TheVariants as answers
use Rattle.mace_search.specs.declared.answer.SearchAnswer.TheVariants.{Model, MaxSeconds}
use Rattle.model_tables.specs.Tables.{Finite, meaning_of}
use Rattle.cell_search.specs.Finites.{finite_of, AreTablesFor}
use Rattle.cell_search.specs.declared.search.State.{State}
use Rattle.cell_search.specs.declared.search.State.TheVariants.{Following, Found, Exhausted, Late}

-- the least number above a problem's numerals
abbrev pub above_numeral : Option ℕ → ℕ
above_numeral None = 0
above_numeral (Some k) = suc k

-- what a search in this way is about among n elements; the clauses' symbols stand in the table
abbrev pub world_of : List Symbol → Clauses → ℕ → Way → World
world_of table c n way =
    record {
      size = n;
      fixed = above_numeral c.numeral;
      clauses = clause_trees c;
      blocks = blocks_in table c;
      way = way;
    }

-- What is searched for; whether the decisions are still being followed, and the choices that stand;
-- the partial table with the steps that made it, and the tables of its values; when to stop, and the
-- reading by which the time is over.
pub record Course : Type 0 where
  pub world : World
  pub live : Bool
  pub choices : List Choice
  pub table : Partial
  pub tables : Finite
  pub stop : Option ℕ
  pub late : Option ℕ

-- where a search begins
abbrev pub beginning : World → Option ℕ → Course
beginning w stop =
    record {
      world = w;
      live = true;
      choices = [];
      table = partial (many_cells w) (max w.size 2) (ranking_of w) [] [];
      tables = finite_of w [];
      stop = stop;
      late = None;
    }

-- the same search, further on
abbrev pub IsSameCourse : Course → Course → Type 0
IsSameCourse s s' = (s'.world ≡ s.world) × (s'.stop ≡ s.stop)

-- What an answer says: the tables have a value for each cell, and are a model that was ahead, and
-- is ahead no more; none was ahead; or the time is over, and nothing was passed over.
abbrev pub AnswersByCells : Course → Course → SearchAnswer → Times → Type 0
AnswersByCells s s' Model t =
    FindsModel s.world s.live s.choices (meaning_of s'.tables) s'.choices
    × AreTablesFor s.world s'.tables × (s'.live ≡ false) × (s'.late ≡ None) × IsEarly s.stop t
AnswersByCells s s' answers.Exhausted t =
    IsOver s.world s.live s.choices × (s'.live ≡ false) × (s'.choices ≡ []) × (s'.late ≡ None)
    × IsEarly s.stop t
AnswersByCells s s' (MaxSeconds last) t =
    LeavesOpen s.world s.live s.choices true s'.choices × (s'.live ≡ true) × (s'.late ≡ Some last)
    × IsLate s.stop t last

-- whether decisions are being followed, and whether the time is over, in a state of the code
abbrev pub live_in : State → Bool
live_in Following = true
live_in Found = false
live_in Exhausted = false
live_in (Late last) = true

abbrev pub late_in : State → Option ℕ
late_in Following = None
late_in Found = None
late_in Exhausted = None
late_in (Late last) = Some last

-- the state after an answer, so many choices standing
abbrev pub follows_after : SearchAnswer → ℕ → State
follows_after Model zero = Exhausted
follows_after Model (suc n) = Found
follows_after answers.Exhausted n = Exhausted
follows_after (MaxSeconds last) n = Late last

-- choices stand where there is more to be tried alone
abbrev pub IsStateOf : State → List Frame → Type 0
IsStateOf Following fs = Unit {0}
IsStateOf Found fs = 0 < length fs
IsStateOf Exhausted fs = fs ≡ []
IsStateOf (Late last) fs = Unit {0}
