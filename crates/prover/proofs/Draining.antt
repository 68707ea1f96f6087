-- The clauses that are queued, one after the other.
use Rattle.std.proofs.Common.{◌≡◌, ◌⊎◌, inl, inr, ◌<◌, ◌≤◌, ℕ, zero, suc, refl, sym, ap, ◌∙◌, subst, arith, Some, None}
use Rattle.prover.proofs.Finding.{grown_at}
use Rattle.prover.proofs.Going.{after_end, finds_none_here, finds_none_on, falls_at, is_busy}
use Rattle.prover.specs.Answers.{HasQueue, IsQuiet, FindsAtOnce, FindsNone, FindsNext, SettlesTo}
use Rattle.prover_steps.specs.Ending.{QueueFalls, given_left}
use Rattle.prover_steps.specs.HeldOrder.{IsInOrder}
use Rattle.prover_steps.specs.OrderLaws.{NextKeepsOrder}
use Rattle.prover_steps.specs.Searching.{Setting, SearchState, next_state, after}

-- from a state to another one no proof is found, and no clause is given
pub record IsDrainedTo (st : Setting) (s t : SearchState) : Type 0 where
  pub goes : FindsNone st s t
  pub given : t.given ≡ s.given
  pub left : given_left st t ≤ given_left st s
  pub ordered : IsInOrder t

pub none_drained : (st : Setting) (s : SearchState) → IsInOrder s → IsDrainedTo st s s
none_drained st s h = record { goes = finds_none_here st s; given = refl; left = omega arith; ordered = h }

pub in_order_next : NextKeepsOrder → (st : Setting) (s t : SearchState) → IsInOrder s → t ≡ next_state st s → IsInOrder t
in_order_next keeps st s t h e = subst IsInOrder (sym e) (keeps st s h)

pub one_drained : QueueFalls → NextKeepsOrder → (st : Setting) (s t u : SearchState) → IsDrainedTo st s t → t.ended ≡ None → HasQueue t → u ≡ next_state st t → FindsAtOnce t u None → IsDrainedTo st s u
one_drained falls keeps st s t u h going queued e same = record {
  goes = finds_none_on st s t u h.goes e same;
  given = (grown_at st t u e going queued).given ∙ h.given;
  left = omega (arith, h.left, (falls_at falls st t u e going queued).1);
  ordered = in_order_next keeps st t u h.ordered e;
}

pub proof_drained : (st : Setting) (s t u : SearchState) (n : ℕ) → IsDrainedTo st s t → t.ended ≡ None → HasQueue t → u ≡ next_state st t → FindsAtOnce t u (Some n) → FindsNext st s u n × (u.given ≡ s.given)
proof_drained st s t u n h going queued e found = (record { before = t; goes = h.goes; next = e; found = found }, (grown_at st t u e going queued).given ∙ h.given)

-- a number below one more is below it, or it
one_less : (k n : ℕ) → (k < n) ⊎ (k ≡ n) → (suc k < suc n) ⊎ (suc k ≡ suc n)
one_less k n (inl h) = inl (omega (arith, h))
one_less k n (inr e) = inr (ap suc e)

less_or_same : (k n : ℕ) → k < suc n → (k < n) ⊎ (k ≡ n)
less_or_same zero zero h = inr refl
less_or_same zero (suc n) h = inl (omega arith)
less_or_same (suc k) zero h = absurd (omega (arith, h))
less_or_same (suc k) (suc n) h = one_less k n (less_or_same k n (omega (arith, h)))

-- so far no state was quiet
pub record IsSettling (st : Setting) (s t : SearchState) : Type 0 where
  pub steps : ℕ
  pub reached : after st steps s ≡ t
  pub busy : (k : ℕ) → k < steps → ¬ IsQuiet (after st k s)
  pub ordered : IsInOrder t

pub none_settled : (st : Setting) (s : SearchState) → IsInOrder s → IsSettling st s s
none_settled st s h = record { steps = 0; reached = refl; busy = λ k few. absurd (omega (arith, few)); ordered = h }

pub one_settled : NextKeepsOrder → (st : Setting) (s t u : SearchState) → IsSettling st s t → t.ended ≡ None → HasQueue t → u ≡ next_state st t → IsSettling st s u
one_settled keeps st s t u h going queued e = record {
  steps = suc h.steps;
  reached = after_end st h.steps s ∙ ap (next_state st) h.reached ∙ sym e;
  busy = λ k few quiet. by k few quiet (less_or_same k h.steps few);
  ordered = in_order_next keeps st t u h.ordered e;
}
  where
    by : (k : ℕ) → k < suc h.steps → IsQuiet (after st k s) → (k < h.steps) ⊎ (k ≡ h.steps) → ⊥
    by k few quiet (inl less) = h.busy k less quiet
    by k few quiet (inr same) = is_busy t going queued (subst IsQuiet (ap (λ (j : ℕ). after st j s) same ∙ h.reached) quiet)

pub settled : (st : Setting) (s t : SearchState) → IsSettling st s t → IsQuiet t → SettlesTo st s t
settled st s t h quiet = record { steps = h.steps; reached = h.reached; busy = h.busy; quiet = quiet }
