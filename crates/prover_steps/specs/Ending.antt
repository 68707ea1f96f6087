-- Why a search ends, and what it ends with.
use Rattle.std.specs.Prelude.{ℕ, suc, ◌≡◌, ◌≢◌, ◌<◌, ◌≤◌, ◌+◌, ◌-◌, ◌*◌, Bool, true, not, max, if◌then◌else◌, length, List, [], ◌∷◌, Some, None, is_some}
use Rattle.fol_core.specs.Literals.{ClauseTree}
use Rattle.fol_problem.specs.Stated.{Said}
use Rattle.derivation.specs.Lines.{InputRow}
use Rattle.ladr_options.specs.declared.options.Options.{Options}
use Rattle.prover_steps.specs.Clashing.{Held}
use Rattle.prover_steps.specs.Picking.{picked}
use Rattle.prover_steps.specs.Searching.{Setting, Queued, Reason, proved, spent, gave_all, kept_all, filled, SearchState, is_nil, processed, under_limits, next_state, SearchReaches}
use Rattle.prover_steps.specs.Starting.{start_state}

-- how many clauses may still be given, and one more until the end is told
abbrev pub given_left : Setting → SearchState → ℕ
given_left st s = if is_some s.ended then 0 else suc (st.options.max_given - s.given)

-- how many clauses are in the queue, or may come there when they are put back
abbrev pub queued_or_held : SearchState → ℕ
queued_or_held s = length s.queue + (length s.waiting + length s.usable)

-- How many clauses may still be processed before one is given, and one more: each takes a clause
-- from the queue, and one that is kept may be put back.
abbrev pub queue_left : Setting → SearchState → ℕ
queue_left st s =
    if is_some s.ended then 0
    else suc (queued_or_held s + (st.options.max_kept - s.kept))

-- where the queue is empty, fewer are left to be given
abbrev pub GivingFalls : Type 0
GivingFalls =
    (st : Setting) (s : SearchState)
    → s.ended ≡ None → s.queue ≡ [] → given_left st (next_state st s) < given_left st s

-- else fewer are left to be processed, and no more to be given
abbrev pub QueueFalls : Type 0
QueueFalls =
    (st : Setting) (s : SearchState) (q : Queued) (qs : List Queued)
    → s.ended ≡ None → s.queue ≡ q ∷ qs
    → (queue_left st (next_state st s) < queue_left st s)
    × (given_left st (next_state st s) ≤ given_left st s)

-- of a clause that has left the queue: nothing is added
abbrev pub ProcessingAddsNone : Type 0
ProcessingAddsNone =
    (st : Setting) (s : SearchState) (q : Queued)
    → s.ended ≡ None
    → (queue_left st (under_limits st (processed st s q)) ≤ queue_left st s)
    × (given_left st (under_limits st (processed st s q)) ≤ given_left st s)

-- so each search ends
abbrev pub EachSearchEnds : Type 0
EachSearchEnds =
    (st : Setting) (s : SearchState)
    → (t : SearchState) × SearchReaches st s t × (is_some t.ended ≡ true)

-- What a reason says of the state. Limits are told of in their order: the first that is reached.
abbrev pub IsReason : Setting → SearchState → Reason → Type 0
IsReason st s proved = st.options.max_proofs ≤ length s.proofs
IsReason st s spent = (s.queue ≡ []) × (s.waiting ≡ [])
IsReason st s gave_all =
    (s.queue ≡ []) × (s.waiting ≢ []) × (st.options.max_given ≤ s.given)
IsReason st s kept_all =
    (length s.proofs < st.options.max_proofs) × (st.options.max_kept ≤ s.kept)
IsReason st s filled =
    (length s.proofs < st.options.max_proofs) × (s.kept < st.options.max_kept)
    × (st.options.max_megs * 65536 ≤ s.symbols)

-- No counter is at its limit; since limits are tested behind a clause, one of 0 is as good as one
-- of 1.
pub record IsBelowLimits (st : Setting) (s : SearchState) : Type 0 where
  pub kept : s.kept < max 1 st.options.max_kept
  pub proofs : length s.proofs < max 1 st.options.max_proofs
  pub symbols : s.symbols < max 1 (st.options.max_megs * 65536)

-- Counters never pass their limits; none but that of given clauses is at it before the end; and the
-- end's reason is true.
pub record IsWithinLimits (st : Setting) (s : SearchState) : Type 0 where
  pub given : s.given ≤ st.options.max_given
  pub kept : s.kept ≤ max 1 st.options.max_kept
  pub proofs : length s.proofs ≤ max 1 st.options.max_proofs
  pub before : s.ended ≡ None → IsBelowLimits st s
  pub reason : (r : Reason) → s.ended ≡ Some r → IsReason st s r

abbrev pub NextIsWithinLimits : Type 0
NextIsWithinLimits =
    (st : Setting) (s : SearchState) → IsWithinLimits st s → IsWithinLimits st (next_state st s)

abbrev pub StartIsWithinLimits : Type 0
StartIsWithinLimits =
    (st : Setting) (ss : List Said) (rows : List InputRow) → IsWithinLimits st (start_state ss rows)

abbrev pub ReachedAreWithinLimits : Type 0
ReachedAreWithinLimits =
    (st : Setting) (s t : SearchState)
    → IsWithinLimits st s → SearchReaches st s t → IsWithinLimits st t

-- a clause is picked exactly where one waits
abbrev pub PicksWhereOneWaits : Type 0
PicksWhereOneWaits =
    (o : Options) (weight : ClauseTree → ℕ) (is_hinted : ClauseTree → Bool) (hs : List Held)
    (turn : ℕ) → is_some (picked o weight is_hinted hs turn) ≡ not (is_nil hs)
