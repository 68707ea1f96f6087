-- How a task ends, or why it comes to no end of its own.
use Rattle.std.specs.Prelude.{◌≡◌, ◌⊎◌, Bool, true, false}
use Rattle.std.specs.declared.result.Result.{Result}
use Rattle.ladr_clausetester.specs.Filtering.{Filters}
use Rattle.ladr_clausetester.specs.Testing.{Tests}
use Rattle.ladr_clausetester.specs.declared.testing.Tested.{Tested}
use Rattle.ladr_formulas.specs.declared.styles.Mode.TheVariants.{Tester}
use Rattle.ladr_intake.specs.Posed.{interprets}
use Rattle.ladr_intake.specs.Refusals.{refuses}
use Rattle.ladr_intake.specs.declared.stops.Stop.{Stop}
use Rattle.ladr_io.specs.Streams.{Inflow, Outflow}
use Rattle.ladr_io.specs.Times.{Times}
use Rattle.ladr_prover9.specs.Finding.{Refutes}
use Rattle.ladr_prover9.specs.Nothing.{HasNothing}
use Rattle.ladr_prover9.specs.Quests.{IsHad}
use Rattle.ladr_prover9.specs.declared.ends.ProverEnd.{ProverEnd}
use Rattle.ladr_top.specs.Causes.{cause_by}
use Rattle.ladr_top.specs.Runs.{RunsCheck, RunsMace4, RunsMade}
use Rattle.ladr_top.specs.declared.cause.Cause.{Cause}
use Rattle.ladr_top.specs.declared.cause.Cause.TheVariants.{Clausetester, Prover9}
use Rattle.ladr_words.specs.declared.task.Task.{Task}
use Rattle.ladr_words.specs.declared.task.Task.TheVariants as task

abbrev pub cause_in : Result Cause Stop → Cause
cause_in = cause_by (λ cause. cause)

-- how the input is tested, or how its interpretations are filtered
abbrev pub TestsOrFilters : Bool → Inflow → Inflow → Outflow → Outflow → Result Tested Stop → Type 0
TestsOrFilters false = Tests interprets (refuses Tester)
TestsOrFilters true = Filters interprets (refuses Tester)

-- A run of a task. Of `prover9` it is known too that the bytes state a problem, or that the run came
-- to no end of its own and printed nothing where memory was lacking.
abbrev pub RunsTask : Task → Inflow → Inflow → Outflow → Outflow → Times → Cause → Type 0
RunsTask task.Check from from' to to' t cause = RunsCheck from from' to to' cause
RunsTask (task.Clausetester filter) from from' to to' t cause =
    (r : Result Tested Stop) × TestsOrFilters filter from from' to to' r
    × (cause ≡ cause_by Clausetester r)
RunsTask (task.Mace4 words) from from' to to' t cause = RunsMace4 words from from' to to' t cause
RunsTask (task.Made n) from from' to to' t cause = RunsMade n to to' cause
RunsTask (task.Prover9 seconds) from from' to to' t cause =
    (r : Result ProverEnd Stop)
    × ((run : Refutes seconds from from' to to' t r) × (IsHad run.bytes ⊎ HasNothing to to' r))
    × (cause ≡ cause_by Prover9 r)
