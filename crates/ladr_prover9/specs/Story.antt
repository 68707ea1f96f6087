-- How a search for proofs goes, and where it ends.
use Rattle.std.specs.Prelude.{ℕ, suc, ◌≡◌, ◌<◌, ◌^◌, ◌⊎◌, length, List, Option, Some}
use Rattle.ladr_io.specs.Times.{Times}
use Rattle.search_clock.specs.Watching.{time_to_stop, IsInTime, HasRead}
use Rattle.ladr_prover9.specs.ProofTexts.{IsStateText}
use Rattle.ladr_prover9.specs.Quests.{Quest}
use Rattle.ladr_prover9.specs.declared.ends.ProverEnd.{ProverEnd}
use Rattle.ladr_prover9.specs.declared.ends.ProverEnd.TheVariants.{MaxProofs, SosEmpty, MaxMegs, MaxSeconds, MaxGiven, MaxKept, ClauseLimit}
use Rattle.ladr_io.specs.Watch.{IsLate}
use Rattle.prover.specs.Answers.{IsAtGiving}
use Rattle.prover_setup.specs.SearchInputs.{SearchInput, setting_in, start_in, IsReachedIn}
use Rattle.prover_steps.specs.Ending.{IsReason}
use Rattle.prover_steps.specs.Searching.{Setting, Reason, proved, spent, gave_all, kept_all, filled, SearchState}

-- The clock is read once before a search begins, and then before each clause is given: so often by
-- this state, or once more where a clause is to be given next. Before it begins it isn't read.
abbrev pub HasRung : SearchInput → Option ℕ → SearchState → Times → Type 0
HasRung x seconds t times =
    ((t ≡ start_in x) × (times.count ≡ 0))
    ⊎ (HasRead seconds (suc t.given) times
    ⊎ (IsAtGiving (setting_in x) t × HasRead seconds (suc (suc t.given)) times))

-- The search goes on, with this text so far.
pub record ProofsGo (q : Quest) (seconds : Option ℕ) (times : Times) (text : List ℕ) : Type 0 where
  pub state : SearchState
  pub reached : IsReachedIn q.search state
  pub in_time : IsInTime seconds times
  pub reads : HasRung q.search seconds state times
  pub prints : IsStateText q state text

-- it ended in a state for a reason, which is true of the state, in time
pub record EndsFor (st : Setting) (reason : Reason) (seconds : Option ℕ) (t : SearchState)
    (times : Times) : Type 0
  where
    pub ended : t.ended ≡ Some reason
    pub holds : IsReason st t reason
    pub in_time : IsInTime seconds times
    pub reads : HasRead seconds (suc t.given) times

-- the time is over before a clause is given
pub record EndsLate (st : Setting) (seconds : Option ℕ) (t : SearchState) (times : Times)
    (first last : ℕ) : Type 0 where
  pub at_giving : IsAtGiving st t
  pub late : IsLate (time_to_stop seconds times) times last
  pub first_is : first ≡ times.first
  pub reads : HasRead seconds (suc (suc t.given)) times

-- a search ends in a state for this cause
abbrev pub EndsIn : Setting → Option ℕ → SearchState → Times → ProverEnd → Type 0
EndsIn st seconds t times MaxProofs = EndsFor st proved seconds t times
EndsIn st seconds t times SosEmpty = EndsFor st spent seconds t times
EndsIn st seconds t times MaxMegs = EndsFor st filled seconds t times
EndsIn st seconds t times (MaxSeconds first last) = EndsLate st seconds t times first last
EndsIn st seconds t times MaxGiven = EndsFor st gave_all seconds t times
EndsIn st seconds t times MaxKept = EndsFor st kept_all seconds t times
EndsIn st seconds t times (ClauseLimit formula) = ⊥

-- The search has come to this end in a state, with this text before the last lines, and fewer
-- proofs than 2 ^ 63.
pub record ProofsCome (q : Quest) (seconds : Option ℕ) (times : Times) (end : ProverEnd)
    (t : SearchState) (text : List ℕ) : Type 0 where
  pub reached : IsReachedIn q.search t
  pub ends : EndsIn (setting_in q.search) seconds t times end
  pub prints : IsStateText q t text
  pub counted : length t.proofs < 2 ^ 63
