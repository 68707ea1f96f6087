-- Runs that come to no end of their own: with no input, and cut off.
use Rattle.std.proofs.Common.{◌≡◌, ◌⊎◌, inl, inr, ℕ, List, Result, Ok, Err, sym, subst}
use Rattle.std.specs.Prelude.{IsErrAnd}
use Rattle.ladr_formulas.specs.declared.styles.Mode.TheVariants.{Prover}
use Rattle.ladr_intake.proofs.Commands.{IsHandedOn, none_runs, read_taken, told_own}
use Rattle.ladr_intake.specs.Command.{Runs}
use Rattle.ladr_intake.specs.Input.{IsAllRead}
use Rattle.ladr_intake.specs.Refusals.{IsNoneTaken, IsToldBy, refuses}
use Rattle.ladr_intake.specs.declared.stops.Stop.{Stop}
use Rattle.ladr_intake.specs.declared.stops.Stop.TheVariants as stops
use Rattle.ladr_io.specs.Streams.{Inflow, Outflow}
use Rattle.ladr_output.specs.Telling.{Tells}
use Rattle.ladr_output.specs.declared.cut.Cut.{Cut}
use Rattle.ladr_output.specs.declared.cut.Cut.TheVariants.{WriteFault, Memory}
use Rattle.ladr_prover9.specs.Nothing.{HasNothing}
use Rattle.ladr_prover9.specs.Quests.{Quest, asks, IsHad}

module _ (E : Type 0) (c d : Outflow) where
  abbrev stopped : Stop → Result E Stop
  stopped stop = Err stop

  -- as it is told
  nothing_told : (why : Stop) (stop : Stop) → IsToldBy why c d stop → HasNothing c d (stopped stop)
  nothing_told (stops.Refused why) stop (Ok u, took, same) = subst (λ (x : Stop). HasNothing c d (stopped x)) (sym same) tt
  nothing_told (stops.Refused why) stop (Err WriteFault, front, same) = subst (λ (x : Stop). HasNothing c d (stopped x)) (sym same) tt
  nothing_told (stops.Refused why) stop (Err Memory, took, same) = subst (λ (x : Stop). HasNothing c d (stopped x)) (sym same) took
  nothing_told stops.ReadFault stop (Ok u, took, same) = subst (λ (x : Stop). HasNothing c d (stopped x)) (sym same) tt
  nothing_told stops.ReadFault stop (Err WriteFault, front, same) = subst (λ (x : Stop). HasNothing c d (stopped x)) (sym same) tt
  nothing_told stops.ReadFault stop (Err Memory, took, same) = subst (λ (x : Stop). HasNothing c d (stopped x)) (sym same) took
  nothing_told stops.WriteFault stop h = absurd h
  nothing_told stops.Memory stop (same, took) = subst (λ (x : Stop). HasNothing c d (stopped x)) (sym same) took

  has_nothing : (why stop : Stop) (r : Result E Stop) → IsToldBy why c d stop → IsErrAnd r (λ s. s ≡ stop) → HasNothing c d r
  has_nothing why stop (Ok e) told is = absurd is
  has_nothing why stop (Err s) told is = subst (λ (x : Stop). HasNothing c d (stopped x)) (sym is) (nothing_told why stop told)

  module _ (idle : Type 0) (goes : Quest → List ℕ → Type 0) (ends : Quest → E → List ℕ → Type 0) (a b : Inflow) where
    -- with no input
    pub nothing_run : (stop : Stop) (r : Result E Stop) → idle → IsNoneTaken (refuses Prover) a b c d stop → IsErrAnd r (λ s. s ≡ stop) → (run : Runs asks (refuses Prover) idle goes ends a b c d r) × (IsHad run.bytes ⊎ HasNothing c d r)
    nothing_run stop r i h is = (none_runs asks (refuses Prover) idle goes ends a b c d stop r i h is, inr (has_nothing h.0 stop r h.2 is))

    -- what the bytes ask for, printed to its end or cut off
    pub had_run : (bytes : List ℕ) (q : Quest) (c' : Outflow) (r : Result E Cut) (r' : Result E Stop) → c' ≡ c → IsAllRead a b bytes → asks bytes q → IsHandedOn r r' → Tells (goes q) (ends q) c' d r → IsHad bytes
        → (run : Runs asks (refuses Prover) idle goes ends a b c d r') × (IsHad run.bytes ⊎ HasNothing c d r')
    had_run bytes q c' r r' same read asked is h had = (
      record { bytes = bytes; taken = read_taken a b bytes read; tells = told_own asks (refuses Prover) idle goes ends a b bytes q c c' d r r' same read asked is h },
      inl had,
    )
