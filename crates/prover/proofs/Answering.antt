-- What comes of a search.
use Rattle.std.proofs.Common.{◌≡◌, ◌⊎◌, ℕ, suc, ◌+◌, inl, inr, refl, sym, subst, arith, Result, Ok, Err, Option, Some, None}
use Rattle.std.specs.declared.alloc.AllocError.{AllocError}
use Rattle.ladr_io.specs.Times.{Times}
use Rattle.prover.proofs.Giving.{IsSoughtTo}
use Rattle.prover.proofs.Going.{reaches_next, finds_none_then, finds_next_then}
use Rattle.prover.proofs.Readings.{reads_same, reads_once, reads_begun}
use Rattle.prover.specs.Answers.{IsAtGiving, EndsWithout, ComesTo, ReadsOn, ReadsFor, RunsTo, DrainsTo, Rings, IsOver, answer_for, end_of}
use Rattle.prover.specs.declared.answer.ProverAnswer.{ProverAnswer}
use Rattle.prover.specs.declared.answer.ProverAnswer.TheVariants.{Proof, Proofs, SosEmpty, MaxGiven, MaxKept, MaxMegs, MaxSeconds}
use Rattle.prover_steps.specs.Searching.{Setting, Reason, proved, spent, gave_all, kept_all, filled, SearchState, SearchReaches}
use Rattle.search_clock.specs.Watching.{IsInTime, HasRead}

-- an end for a reason, in time
ends_for : (r : Reason) (st : Setting) (seconds : Option ℕ) (s t : SearchState) (a b : Times) → EndsWithout st s t r → IsInTime seconds b → ReadsOn seconds 0 s t a b → RunsTo st seconds 0 s t a b (Ok (answer_for r))
ends_for proved st seconds s t a b h early reads = (h, (early, reads))
ends_for spent st seconds s t a b h early reads = (h, (early, reads))
ends_for gave_all st seconds s t a b h early reads = (h, (early, reads))
ends_for kept_all st seconds s t a b h early reads = (h, (early, reads))
ends_for filled st seconds s t a b h early reads = (h, (early, reads))

module _ (st : Setting) (seconds : Option ℕ) (s t : SearchState) (a b : Times) (h : IsSoughtTo st seconds s t a b) where
  pub ended : (r : Reason) (answer : ProverAnswer) → answer ≡ answer_for r → t.ended ≡ Some r → IsInTime seconds b → RunsTo st seconds 0 s t a b (Ok answer)
  ended r answer e is early = subst (λ (x : ProverAnswer). RunsTo st seconds 0 s t a b (Ok x)) (sym e) (ends_for r st seconds s t a b (record { goes = h.goes; ended = is }) early h.reads)

  -- one more proof
  pub found : (u : SearchState) (n : ℕ) → DrainsTo st t u (Ok (Some n)) → IsInTime seconds b → RunsTo st seconds 0 s u a b (Ok (Proof n))
  found u n k early = (finds_next_then st s t u n h.goes k.0, (early, reads_same seconds 0 s t u a b k.1 h.reads))

  -- memory is lacking while the queue is processed
  pub lacking : (u : SearchState) (error : AllocError) → DrainsTo st t u (Err error) → IsInTime seconds b → RunsTo st seconds 0 s u a b (Err error)
  lacking u error k early = record {
    state = k.0;
    goes = finds_none_then st s t k.0 h.goes k.1;
    in_time = early;
    reads = inl (reads_same seconds 0 s t k.0 a b k.2 h.reads);
  }

  -- the time is over
  pub late : (c : Times) (answer : ProverAnswer) → Rings st seconds t b c → IsOver st seconds t c answer → RunsTo st seconds 0 s t a c (Ok answer)
  late c (Proof n) rings over = absurd over
  late c Proofs rings over = absurd over
  late c SosEmpty rings over = absurd over
  late c MaxGiven rings over = absurd over
  late c MaxKept rings over = absurd over
  late c MaxMegs rings over = absurd over
  late c (MaxSeconds first last) (inl x) over = ((h.goes, over.0), (over.1, over.2, reads_once seconds 0 s t a b c h.rises x.1 h.reads))
  late c (MaxSeconds first last) (inr x) over = absurd (x.0 over.0)

  -- memory is lacking for the step that gives a clause
  pub lacking_behind : (u : SearchState) (c : Times) (error : AllocError) → Rings st seconds t b c → IsInTime seconds c → RunsTo st seconds 0 s u a c (Err error)
  lacking_behind u c error rings early = record {
    state = t;
    goes = h.goes;
    in_time = early;
    reads = by rings;
  }
    where
      by : Rings st seconds t b c → ReadsOn seconds 0 s t a c ⊎ (IsAtGiving st t × ReadsOn seconds 1 s t a c)
      by (inl x) = inr (x.0, reads_once seconds 0 s t a b c h.rises x.1 h.reads)
      by (inr x) = inl (subst (λ (w : Times). ReadsOn seconds 0 s t a w) (sym x.1) h.reads)

-- behind the first reading
module _ (st : Setting) (seconds : Option ℕ) (first : ℕ) (s t : SearchState) (a b c : Times) (begun : (n : ℕ) → HasRead seconds n a → HasRead seconds (n + first) b) where
  on : (u : SearchState) → ReadsOn seconds 0 s u b c → ReadsOn seconds first s u a c
  on u h = reads_begun seconds first 0 first s u a b c (omega arith) begun h

  once : (u : SearchState) → ReadsOn seconds 1 s u b c → ReadsOn seconds (suc first) s u a c
  once u h = reads_begun seconds first 1 (suc first) s u a b c (omega arith) begun h

  answers_on : (answer : ProverAnswer) → ReadsFor seconds 0 s t b c answer → ReadsFor seconds first s t a c answer
  answers_on (Proof n) h = (h.0, on t h.1)
  answers_on Proofs h = (h.0, on t h.1)
  answers_on SosEmpty h = (h.0, on t h.1)
  answers_on MaxGiven h = (h.0, on t h.1)
  answers_on MaxKept h = (h.0, on t h.1)
  answers_on MaxMegs h = (h.0, on t h.1)
  answers_on (MaxSeconds from to) h = (h.0, h.1, once t h.2)

  pub runs_on : (r : Result ProverAnswer AllocError) → RunsTo st seconds 0 s t b c r → RunsTo st seconds first s t a c r
  runs_on (Ok answer) h = (h.0, answers_on answer h.1)
  runs_on (Err error) h = record { state = h.state; goes = h.goes; in_time = h.in_time; reads = by h.reads }
    where
      by : ReadsOn seconds 0 s h.state b c ⊎ (IsAtGiving st h.state × ReadsOn seconds 1 s h.state b c) → ReadsOn seconds first s h.state a c ⊎ (IsAtGiving st h.state × ReadsOn seconds (suc first) s h.state a c)
      by (inl x) = inl (on h.state x)
      by (inr x) = inr (x.0, once h.state x.1)

-- each answer comes in a state that is reached
pub comes_reached : (st : Setting) (s t : SearchState) (answer : ProverAnswer) → ComesTo st s t answer → SearchReaches st s t
comes_reached st s t (Proof n) h = reaches_next st s h.before t h.goes.reached h.next
comes_reached st s t Proofs h = h.goes.reached
comes_reached st s t SosEmpty h = h.goes.reached
comes_reached st s t MaxGiven h = h.goes.reached
comes_reached st s t MaxKept h = h.goes.reached
comes_reached st s t MaxMegs h = h.goes.reached
comes_reached st s t (MaxSeconds first last) h = h.0.reached

-- the search goes on behind a proof alone
pub only_proof : (answer : ProverAnswer) → end_of answer ≡ None → (n : ℕ) × (answer ≡ Proof n)
only_proof (Proof n) e = (n, refl)
only_proof Proofs e = absurd cc
only_proof SosEmpty e = absurd cc
only_proof MaxGiven e = absurd cc
only_proof MaxKept e = absurd cc
only_proof MaxMegs e = absurd cc
only_proof (MaxSeconds first last) e = absurd cc
