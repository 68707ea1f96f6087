-- What a prover answers: the first thing that happens from a state on.
use Rattle.std.specs.Prelude.{ℕ, suc, ◌≡◌, ◌≢◌, ◌<◌, ◌+◌, ◌⊎◌, true, if◌then◌else◌, length, List, [], ◌∷◌, ◌++◌, Option, Some, None, is_some}
use Rattle.std.specs.declared.alloc.AllocError.{AllocError}
use Rattle.std.specs.declared.result.Result.{Result}
use Rattle.std.specs.declared.result.Result.TheVariants.{Ok, Err}
use Rattle.ladr_io.specs.Times.{Times}
use Rattle.ladr_io.specs.Watch.{IsLate}
use Rattle.prover.specs.declared.answer.ProverAnswer.{ProverAnswer}
use Rattle.prover.specs.declared.answer.ProverAnswer.TheVariants.{Proof, Proofs, SosEmpty, MaxGiven, MaxKept, MaxMegs, MaxSeconds}
use Rattle.prover.specs.declared.answer.Counters.{Counters}
use Rattle.prover_steps.specs.Searching.{Setting, Queued, Reason, proved, spent, gave_all, kept_all, filled, FoundProof, SearchState, given_next, next_state, after, SearchReaches}
use Rattle.search_clock.specs.Watching.{time_to_stop, IsInTime, HasRead, IsLookedAt}
use Rattle.search_clock.specs.declared.watch.Watch.{Watch}

-- a clause is to be given next: none is queued, one waits, and more may be given
pub record IsAtGiving (st : Setting) (t : SearchState) : Type 0 where
  pub going : t.ended ≡ None
  pub queue : t.queue ≡ []
  pub waiting : t.waiting ≢ []
  pub below : t.given < st.options.max_given

-- a clause is queued
abbrev pub HasQueue : SearchState → Type 0
HasQueue t = (q : Queued) × ((qs : List Queued) × (t.queue ≡ q ∷ qs))

-- no clause is queued, or the search has ended
abbrev pub IsQuiet : SearchState → Type 0
IsQuiet t = (is_some t.ended ≡ true) ⊎ (t.queue ≡ [])

-- the numbers of a state
abbrev pub counters_of : SearchState → Counters
counters_of t = record {
  given = t.given;
  generated = t.generated;
  kept = t.kept;
  large = t.large;
  proofs = length t.proofs;
}

-- a state comes after some steps, and no state before it is quiet, but this one
pub record SettlesTo (st : Setting) (s t : SearchState) : Type 0 where
  pub steps : ℕ
  pub reached : after st steps s ≡ t
  pub busy : (k : ℕ) → k < steps → ¬ IsQuiet (after st k s)
  pub quiet : IsQuiet t

-- A given step: a clause is given, and what is queued is processed until nothing is, or the search
-- has ended.
abbrev pub IsGivenStep : Setting → SearchState → SearchState → Type 0
IsGivenStep st s t = SettlesTo st (given_next st s) t

-- a step finds no proof, or one whose last line has this number
abbrev pub FindsAtOnce : SearchState → SearchState → Option ℕ → Type 0
FindsAtOnce s t None = t.proofs ≡ s.proofs
FindsAtOnce s t (Some n) =
    (p : FoundProof) × (t.proofs ≡ s.proofs ++ p ∷ []) × (n ≡ p.line)

-- a state is reached by steps that find no proof: none is taken back, so none is in between
pub record FindsNone (st : Setting) (s t : SearchState) : Type 0 where
  pub reached : SearchReaches st s t
  pub same : t.proofs ≡ s.proofs

-- the first state with one more proof, whose last line has this number
pub record FindsNext (st : Setting) (s t : SearchState) (n : ℕ) : Type 0 where
  pub before : SearchState
  pub goes : FindsNone st s before
  pub next : t ≡ next_state st before
  pub found : FindsAtOnce before t (Some n)

-- the search has ended for this reason, with no more proofs
pub record EndsWithout (st : Setting) (s t : SearchState) (reason : Reason) : Type 0 where
  pub goes : FindsNone st s t
  pub ended : t.ended ≡ Some reason

-- a reason as an answer, and an answer as an end: behind a proof the search goes on
abbrev pub answer_for : Reason → ProverAnswer
answer_for proved = Proofs
answer_for spent = SosEmpty
answer_for gave_all = MaxGiven
answer_for kept_all = MaxKept
answer_for filled = MaxMegs

abbrev pub end_of : ProverAnswer → Option ProverAnswer
end_of (Proof n) = None
end_of end = Some end

-- The first thing that happens from a state on, and the state in which it does: one more proof, an
-- end, or that the time is over before a clause is given.
abbrev pub ComesTo : Setting → SearchState → SearchState → ProverAnswer → Type 0
ComesTo st s t (Proof n) = FindsNext st s t n
ComesTo st s t Proofs = EndsWithout st s t proved
ComesTo st s t SosEmpty = EndsWithout st s t spent
ComesTo st s t MaxGiven = EndsWithout st s t gave_all
ComesTo st s t MaxKept = EndsWithout st s t kept_all
ComesTo st s t MaxMegs = EndsWithout st s t filled
ComesTo st s t (MaxSeconds first last) = FindsNone st s t × IsAtGiving st t

-- a clock that was not read yet is read once more, before all else
abbrev pub readings_first : Watch → ℕ
readings_first w = if is_some w.first then 0 else 1

-- From one state to another the clock is read once for each clause that is given, and so often
-- besides, where a time is set.
abbrev pub ReadsOn : Option ℕ → ℕ → SearchState → SearchState → Times → Times → Type 0
ReadsOn seconds more s t times times' =
    (n m : ℕ) → m + s.given ≡ n + t.given + more → HasRead seconds n times
    → HasRead seconds m times'

-- By an answer the clock is in time; or the time is over, by a reading before a clause that is not
-- given any more.
abbrev pub ReadsFor : Option ℕ → ℕ → SearchState → SearchState → Times → Times → ProverAnswer → Type 0
ReadsFor seconds more s t times times' (MaxSeconds first last) =
    IsLate (time_to_stop seconds times') times' last × (first ≡ times'.first)
    × ReadsOn seconds (suc more) s t times times'
ReadsFor seconds more s t times times' answer =
    IsInTime seconds times' × ReadsOn seconds more s t times times'

-- Memory is lacking for a step, from a state that is reached with no more proofs. The clock was read
-- for the clauses that were given, and once more where that step is to give a clause and its turn
-- to be read had come.
pub record LacksMemory (st : Setting) (seconds : Option ℕ) (more : ℕ) (s : SearchState)
    (times times' : Times) : Type 0 where
  pub state : SearchState
  pub goes : FindsNone st s state
  pub in_time : IsInTime seconds times'
  pub reads : ReadsOn seconds more s state times times'
      ⊎ (IsAtGiving st state × ReadsOn seconds (suc more) s state times times')

-- From a state to another, with an answer, or where memory is lacking.
abbrev pub RunsTo : Setting → Option ℕ → ℕ → SearchState → SearchState → Times → Times →
    Result ProverAnswer AllocError → Type 0
RunsTo st seconds more s t times times' (Ok answer) =
    ComesTo st s t answer × ReadsFor seconds more s t times times' answer
RunsTo st seconds more s t times times' (Err _) = LacksMemory st seconds more s times times'

-- the queue is processed: to one more proof, or to a quiet state; no clause is given
abbrev pub DrainsTo : Setting → SearchState → SearchState → Result (Option ℕ) AllocError → Type 0
DrainsTo st s t (Ok None) = FindsNone st s t × IsQuiet t × (t.given ≡ s.given)
DrainsTo st s t (Ok (Some n)) = FindsNext st s t n × (t.given ≡ s.given)
DrainsTo st s t (Err _) = (u : SearchState) × FindsNone st s u × (u.given ≡ s.given)

-- the clock is read where a clause is to be given next, and else not
abbrev pub Rings : Setting → Option ℕ → SearchState → Times → Times → Type 0
Rings st seconds t times times' =
    (IsAtGiving st t × IsLookedAt seconds times times')
    ⊎ ((IsAtGiving st t → ⊥) × (times' ≡ times))

-- the time is over before a clause is given
abbrev pub IsOver : Setting → Option ℕ → SearchState → Times → ProverAnswer → Type 0
IsOver st seconds t times (MaxSeconds first last) =
    IsAtGiving st t × IsLate (time_to_stop seconds times) times last × (first ≡ times.first)
IsOver st seconds t times answer = ⊥
