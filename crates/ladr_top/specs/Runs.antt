-- What a run amounts to.
use Rattle.std.specs.Prelude.{ℕ, ◌≡◌, List, Option, Some, None}
use Rattle.std.specs.declared.result.Result.{Result}
use Rattle.accepted_output.specs.Accepted.{WritesAccepted, WritesAcceptedSoFar}
use Rattle.ladr_check.specs.Checking.{Checks}
use Rattle.ladr_check.specs.Offered.{offers, refuses_proofs}
use Rattle.ladr_check.specs.declared.ends.CheckEnd.{CheckEnd}
use Rattle.ladr_clausetester.specs.Filtering.{Filters}
use Rattle.ladr_clausetester.specs.Testing.{Tests}
use Rattle.ladr_clausetester.specs.declared.testing.Tested.{Tested}
use Rattle.ladr_formulas.specs.declared.styles.Mode.TheVariants.{Tester, Mace}
use Rattle.ladr_intake.specs.Input.{AreTaken}
use Rattle.ladr_intake.specs.Posed.{poses, interprets}
use Rattle.ladr_intake.specs.Refusals.{refuses, stop_of_cut}
use Rattle.ladr_intake.specs.declared.stops.Stop.{Stop}
use Rattle.ladr_io.specs.Streams.{Inflow, Outflow}
use Rattle.ladr_io.specs.Times.{Times}
use Rattle.ladr_mace4.specs.Finding.{Searches}
use Rattle.ladr_mace4.specs.Shown.{ShowsPosed}
use Rattle.ladr_mace4.specs.declared.ends.SearchEnd.{SearchEnd}
use Rattle.ladr_made.specs.Making.{Makes}
use Rattle.ladr_output.specs.Telling.{PieceTells, result_of_piece}
use Rattle.ladr_output.specs.declared.cut.Cut.{Cut}
use Rattle.ladr_prover9.specs.Finding.{Refutes}
use Rattle.ladr_prover9.specs.Shown.{ShowsAsked}
use Rattle.ladr_prover9.specs.declared.ends.ProverEnd.{ProverEnd}
use Rattle.ladr_top.specs.Causes.{cause_of, cause_by}
use Rattle.ladr_top.specs.Words.{no_command_line}
use Rattle.ladr_top.specs.declared.cause.Cause.{Cause}
use Rattle.ladr_top.specs.declared.cause.Cause.TheVariants.{Words, Memory, Check, Clausetester, Mace4, Made, Prover9}
use Rattle.ladr_words.specs.declared.task.ModelOptions.{ModelOptions}
use Rattle.ladr_words.specs.declared.task.Task.{Task}
use Rattle.ladr_words.specs.declared.task.Task.TheVariants as task

-- words that are no command: their line is printed, or what cut it off is the cause
abbrev pub RefusesWords : Outflow → Outflow → Cause → Type 0
RefusesWords = PieceTells Words (λ cut. cause_of (stop_of_cut cut)) no_command_line

-- what words read nothing: those that are no command, and those that ask for a generated problem
abbrev pub ReadNothing : Option Task → Type 0
ReadNothing None = Unit {0}
ReadNothing (Some (task.Made n)) = Unit {0}
ReadNothing (Some t) = ⊥

-- a problem of n steps is generated, and its summary is printed, or what cut it off is the cause
abbrev pub RunsMade : ℕ → Outflow → Outflow → Cause → Type 0
RunsMade n to to' cause =
    (r : Result (Unit {0}) Cut) × Makes n to to' r
    × (cause ≡ result_of_piece Made (λ cut. cause_of (stop_of_cut cut)) r)

-- the input is a text of proofs
abbrev pub RunsCheck : Inflow → Inflow → Outflow → Outflow → Cause → Type 0
RunsCheck from from' to to' cause =
    (r : Result CheckEnd Stop) × Checks offers refuses_proofs from from' to to' r
    × (cause ≡ cause_by Check r)

-- The input is a file in the language of this program: of `clausetester`, which tests or filters,
-- or of `mace4` with these words.
abbrev pub RunsClausetester : Inflow → Inflow → Outflow → Outflow → Cause → Type 0
RunsClausetester from from' to to' cause =
    (r : Result Tested Stop) × Tests interprets (refuses Tester) from from' to to' r
    × (cause ≡ cause_by Clausetester r)

abbrev pub RunsFilter : Inflow → Inflow → Outflow → Outflow → Cause → Type 0
RunsFilter from from' to to' cause =
    (r : Result Tested Stop) × Filters interprets (refuses Tester) from from' to to' r
    × (cause ≡ cause_by Clausetester r)

abbrev pub RunsMace4 : ModelOptions → Inflow → Inflow → Outflow → Outflow → Times → Cause → Type 0
RunsMace4 words from from' to to' t cause =
    (r : Result SearchEnd Stop) × Searches (poses Mace) (refuses Mace) words from from' to to' t r
    × (cause ≡ cause_by Mace4 r)

-- what stands in the output of `mace4` with these words
abbrev pub ShowsMace4 : ModelOptions → Inflow → Inflow → Outflow → Outflow → Type 0
ShowsMace4 = ShowsPosed (poses Mace)

-- or of `prover9`, with these seconds, if its words set a time
abbrev pub RunsProver9 : Option ℕ → Inflow → Inflow → Outflow → Outflow → Times → Cause → Type 0
RunsProver9 seconds from from' to to' t cause =
    (r : Result ProverEnd Stop) × Refutes seconds from from' to to' t r
    × (cause ≡ cause_by Prover9 r)

-- Where `prover9` comes to an end of its own, and its output says that the problem is proved, a
-- check of this output, whole as it is, accepts its proofs.
pub record WritesChecked (from from' : Inflow) (to to' : Outflow) : Type 0 where
  pub bytes : List ℕ
  pub taken : AreTaken from from' bytes
  pub written : WritesAccepted bytes to to'

abbrev pub ChecksProver9 : Inflow → Inflow → Outflow → Outflow → Cause → Type 0
ChecksProver9 from from' to to' cause =
    (end : ProverEnd) → cause ≡ Prover9 end → WritesChecked from from' to to'

-- Where memory was lacking, and a proof stands in what it wrote, a check of this, whole as it is,
-- accepts its proofs.
pub record WritesCheckedSoFar (from from' : Inflow) (to to' : Outflow) : Type 0 where
  pub bytes : List ℕ
  pub taken : AreTaken from from' bytes
  pub written : WritesAcceptedSoFar bytes to to'

abbrev pub ChecksSoFar : Inflow → Inflow → Outflow → Outflow → Cause → Type 0
ChecksSoFar from from' to to' cause = cause ≡ Memory → WritesCheckedSoFar from from' to to'

-- what stands in the output of `prover9`
abbrev pub ShowsProver9 : Inflow → Inflow → Outflow → Outflow → Type 0
ShowsProver9 = ShowsAsked
