-- Each of the states is computed.
use Rattle.std.proofs.Common.{◌≡◌, ℕ, zero, suc, ◌<◌, refl, sym, ap, ◌∙◌, inl, inr, arith}
use Rattle.prover.proofs.Going.{after_end}
use Rattle.prover.proofs.laws.worked.Goals as goal
use Rattle.prover.specs.Answers.{IsQuiet}
use Rattle.prover.specs.Worked.{setting, beginning, two_inputs}
use Rattle.prover_proofs.proofs.Growing.{gives_next}
use Rattle.prover_steps.specs.Searching.{Setting, SearchState, given_next, next_state, after}

pub returns-clause-answers : goal.returns-clause-answers
returns-clause-answers c = (
  record {
    before = after setting 1 beginning;
    goes = record { reached = (1, refl); same = refl };
    next = refl;
    found = (record { line = 7; given = 0 }, refl, refl);
  },
  record {
    before = after setting 2 beginning;
    goes = record { reached = (0, refl); same = refl };
    next = refl;
    found = (record { line = 8; given = 0 }, refl, refl);
  },
  record { goes = record { reached = (0, refl); same = refl }; ended = refl },
)

-- q(a) is queued
queued_first : (k : ℕ) → k < 1 → ¬ IsQuiet (after setting k (given_next setting (after setting 3 two_inputs)))
queued_first zero below = λ quiet. elim quiet [
  | inl e ↦ absurd cc
  | inr e ↦ absurd cc
]
queued_first (suc k) below = absurd (omega (arith, below))

-- one step behind others, told of any states, so that none is computed
one_more : (st : Setting) (k : ℕ) (s t : SearchState) → after st k s ≡ t → after st 1 t ≡ after st (suc k) s
one_more st k s t e = sym (after_end st k s ∙ ap (next_state st) e)

-- the second clause is given behind three steps
gives_second : after setting 4 two_inputs ≡ given_next setting (after setting 3 two_inputs)
gives_second = after_end setting 3 two_inputs ∙ gives_next setting (after setting 3 two_inputs) refl refl

pub returns-clause-steps : goal.returns-clause-steps
returns-clause-steps c = (
  record { steps = 0; reached = refl; busy = λ k below. absurd (omega (arith, below)); quiet = inr refl },
  λ step. elim step.quiet [
    | inl e ↦ absurd cc
    | inr e ↦ absurd cc
  ],
  record {
    steps = 1;
    reached = one_more setting 4 two_inputs (given_next setting (after setting 3 two_inputs)) gives_second;
    busy = queued_first;
    quiet = inr refl;
  },
  refl,
)

pub returns-clause-readings : goal.returns-clause-readings
returns-clause-readings c = (
  λ n m e h. omega (arith, e, h),
  λ h. let e : 2 ≡ 3 = h 0 3 refl refl in absurd (omega (arith, e)),
  λ n m e h. h,
)
