-- What stands in the output of a check, to those who don't trust what made the proofs.
use Rattle.std.specs.Prelude.{◌≡◌, ℕ, ◌-◌, ◌≤◌, ◌<◌, ◌^◌, List, length, slice_get, Some}
use Rattle.std.specs.declared.result.Result.{Result}
use Rattle.answered_lines.specs.Answering.{SomeAnswerIsTrue}
use Rattle.answered_lines.specs.Lines.{AnsweredLine, last_answers, IsRefutationWith}
use Rattle.answered_lines.specs.Shows.{AreTrueButGoals}
use Rattle.fol_core.specs.Meaning.{Meaning, IsLawful}
use Rattle.fol_core.specs.SkolemAxioms.{PicksWitnesses}
use Rattle.fol_problem.specs.Stated.{IsCountermodel}
use Rattle.ladr_check.specs.CheckReport.{accepted_line, all_accepted_line}
use Rattle.ladr_check.specs.Checking.{Checks}
use Rattle.ladr_check.specs.Offered.{Offered, offers, refuses_proofs}
use Rattle.ladr_check.specs.Outcomes.{AreRefutations, asked_formulas, answered_rows, input_axioms, HasNewSkolems}
use Rattle.ladr_check.specs.declared.ends.CheckEnd.{CheckEnd}
use Rattle.ladr_intake.specs.Input.{AreTaken, IsAllRead}
use Rattle.ladr_intake.specs.declared.stops.Refused.{Refused}
use Rattle.ladr_intake.specs.declared.stops.Stop.{Stop}
use Rattle.ladr_io.specs.Streams.{Inflow, Outflow, AreLastHeld}
use Rattle.ladr_output.specs.Standing.{Stands}

-- No interpretation, finite or infinite, whose Skolem symbols pick witnesses makes each assumption
-- true and each goal false.
abbrev pub HasNoCountermodel : Offered → Type 0
HasNoCountermodel x =
    (m : Meaning) → IsLawful m → PicksWitnesses m (input_axioms x)
    → ¬ IsCountermodel m x.stated.formulas

-- In every interpretation, finite or infinite, whose Skolem symbols pick witnesses and that makes all
-- of the problem but its goals true, some answer on the last line of a proof is true under each
-- assignment, or some goal whose line asks for nothing.
abbrev pub AnswersHold : Offered → List AnsweredLine → Type 0
AnswersHold x p =
    (m : Meaning) → IsLawful m → PicksWitnesses m (input_axioms x)
    → AreTrueButGoals m x.stated.formulas → SomeAnswerIsTrue m p (last_answers p)

-- so it is of each proof that is a refutation
abbrev pub AnswersShown : Offered → Type 0
AnswersShown x =
    (p : List AnsweredLine) (k : ℕ) → slice_get x.proofs k ≡ Some p
    → IsRefutationWith (asked_formulas x) (answered_rows x) p → AnswersHold x p

-- proof k of those that are offered, counted from 1, is a refutation of the problem
abbrev pub IsRefutationAt : Offered → ℕ → Type 0
IsRefutationAt x k =
    (1 ≤ k)
    × ((p : List AnsweredLine) × (slice_get x.proofs (k - 1) ≡ Some p)
    × IsRefutationWith (asked_formulas x) (answered_rows x) p)

-- one refutation suffices: what is offered with it has no countermodel
abbrev pub OneRefutationSuffices : Type 0
OneRefutationSuffices =
    (bytes : List ℕ) (x : Offered) (k : ℕ) → offers bytes x → IsRefutationAt x k
    → HasNoCountermodel x

-- and what is offered shows the answers of its proofs
abbrev pub RefutationsAnswer : Type 0
RefutationsAnswer = (bytes : List ℕ) (x : Offered) → offers bytes x → AnswersShown x

-- there are n proofs, at least one, and each is a refutation of the problem
abbrev pub AreAllRefutations : Offered → ℕ → Type 0
AreAllRefutations x n =
    (1 ≤ n) × (length x.proofs ≡ n) × AreRefutations (asked_formulas x) (answered_rows x) x.proofs

-- the bytes offer this and nothing else, and they aren't refused
abbrev pub OffersAlone : List ℕ → Offered → Type 0
OffersAlone bytes x =
    offers bytes x × ((y : Offered) → offers bytes y → x ≡ y)
    × ((why : Refused) → ¬ refuses_proofs bytes why)

-- so it is of all bytes that offer something
abbrev pub OffersAreAlone : Type 0
OffersAreAlone = (bytes : List ℕ) (x : Offered) → offers bytes x → OffersAlone bytes x

-- the bytes are refused so and in no other way, and they offer nothing
abbrev pub IsRefusedAlone : List ℕ → Refused → Type 0
IsRefusedAlone bytes why =
    refuses_proofs bytes why × ((other : Refused) → refuses_proofs bytes other → why ≡ other)
    × ((x : Offered) → ¬ offers bytes x)

-- so it is of all bytes that are refused
abbrev pub RefusalsAreAlone : Type 0
RefusalsAreAlone =
    (bytes : List ℕ) (why : Refused) → refuses_proofs bytes why → IsRefusedAlone bytes why

-- The bytes offer something of which this holds, which has no countermodel, and whose refutations
-- show their answers; its Skolem symbols are new, so that they can pick witnesses in whatever
-- interpretation of the rest.
abbrev pub OffersSound : (Offered → Type 0) → List ℕ → Type 0
OffersSound IsSo bytes =
    (x : Offered) × OffersAlone bytes x × IsSo x × HasNewSkolems x × HasNoCountermodel x
    × AnswersShown x

-- Whatever became of the run: where the line of an accepted proof stands in what was written, all
-- of the input was read, and that proof of it is a refutation; and where the line stands that all
-- are accepted, each is.
pub record ShowsProofs (from from' : Inflow) (to to' : Outflow) : Type 0 where
  pub bytes : List ℕ
  pub taken : AreTaken from from' bytes
  pub written : List ℕ
  pub wrote : AreLastHeld to.held to'.held written
  pub accepted :
      (k : ℕ) → k < 2 ^ 64 → Stands (accepted_line k) written
      → IsAllRead from from' bytes × OffersSound (λ x. IsRefutationAt x k) bytes
  pub all_accepted :
      (n : ℕ) → n < 2 ^ 64 → Stands (all_accepted_line n) written
      → IsAllRead from from' bytes × OffersSound (λ x. AreAllRefutations x n) bytes

-- so it is of every run of the command
abbrev pub ChecksShow : Type 0
ChecksShow =
    (from from' : Inflow) (to to' : Outflow) (r : Result CheckEnd Stop)
    → Checks offers refuses_proofs from from' to to' r → ShowsProofs from from' to to'
