-- What a check makes of what a run wrote, by how the run ended.
use Rattle.std.proofs.Common.{◌≡◌, ◌⊎◌, inl, inr, ℕ, List, [], ◌∷◌, Option, Result, Ok, Err, sym, ◌∙◌}
use Rattle.accepted_output.specs.Accepted.{OutputsAreAccepted, ProofsSoFarAreAccepted}
use Rattle.ladr_intake.specs.declared.stops.Stop.{Stop}
use Rattle.ladr_intake.specs.declared.stops.Stop.TheVariants as stops
use Rattle.ladr_io.proofs.StreamLaws.{Gives-none, Takes-none}
use Rattle.ladr_io.specs.Streams.{Inflow, Outflow}
use Rattle.ladr_io.specs.Times.{Times}
use Rattle.ladr_prover9.specs.Finding.{Refutes}
use Rattle.ladr_prover9.specs.Nothing.{HasNothing}
use Rattle.ladr_prover9.specs.Quests.{IsHad}
use Rattle.ladr_prover9.specs.declared.ends.ProverEnd.{ProverEnd}
use Rattle.ladr_top.specs.Causes.{cause_of, cause_by}
use Rattle.ladr_top.specs.Runs.{ChecksProver9, ChecksSoFar}
use Rattle.ladr_top.specs.declared.cause.Cause.{Cause}
use Rattle.ladr_top.specs.declared.cause.Cause.TheVariants.{Refused, ReadFault, WriteFault, Memory, Prover9}

-- another cause is no end of the command's own
stopped : (stop : Stop) (end : ProverEnd) → cause_of stop ≡ Prover9 end → ⊥
stopped (stops.Refused why) end e = absurd cc
stopped stops.ReadFault end e = absurd cc
stopped stops.WriteFault end e = absurd cc
stopped stops.Memory end e = absurd cc

is_had : (bytes : List ℕ) (to to' : Outflow) (own : ProverEnd) → IsHad bytes ⊎ HasNothing to to' (Ok own) → IsHad bytes
is_had bytes to to' own (inl had) = had
is_had bytes to to' own (inr h) = absurd h

-- a run that came to one
pub checked_by : OutputsAreAccepted → (word : Option ℕ) (from from' : Inflow) (to to' : Outflow) (times : Times) (r : Result ProverEnd Stop) (cause : Cause)
    → (run : Refutes word from from' to to' times r) × (IsHad run.bytes ⊎ HasNothing to to' r) → cause ≡ cause_by Prover9 r → ChecksProver9 from from' to to' cause
checked_by law word from from' to to' times (Ok own) cause run is = λ end e. record {
  bytes = run.0.bytes;
  taken = run.0.taken;
  written = law word from from' to to' times own run.0 (is_had (run.0.bytes) to to' own run.1);
}
checked_by law word from from' to to' times (Err stop) cause run is = λ end e. absurd (stopped stop end (sym is ∙ e))

-- memory was lacking
pub none_checked : (from from' : Inflow) (to to' : Outflow) (cause : Cause) → cause ≡ Memory → ChecksProver9 from from' to to' cause
none_checked from from' to to' cause is = λ end e. absurd (stopped stops.Memory end (sym is ∙ e))

-- in a run of the command
pub so_far_by : ProofsSoFarAreAccepted → (word : Option ℕ) (from from' : Inflow) (to to' : Outflow) (times : Times) (r : Result ProverEnd Stop) (cause : Cause)
    → (run : Refutes word from from' to to' times r) × (IsHad run.bytes ⊎ HasNothing to to' r) → cause ≡ cause_by Prover9 r → ChecksSoFar from from' to to' cause
so_far_by law word from from' to to' times (Ok own) cause run is = λ e. absurd (let f : Prover9 own ≡ Memory = sym is ∙ e in cc)
so_far_by law word from from' to to' times (Err (stops.Refused why)) cause run is = λ e. absurd (let f : Refused why ≡ Memory = sym is ∙ e in cc)
so_far_by law word from from' to to' times (Err stops.ReadFault) cause run is = λ e. absurd (let f : ReadFault ≡ Memory = sym is ∙ e in cc)
so_far_by law word from from' to to' times (Err stops.WriteFault) cause run is = λ e. absurd (let f : WriteFault ≡ Memory = sym is ∙ e in cc)
so_far_by law word from from' to to' times (Err stops.Memory) cause run is = λ e. record {
  bytes = run.0.bytes;
  taken = run.0.taken;
  written = law word from from' to to' times run.0 run.1;
}

-- before it began
none_there : (rest : List ℕ) → [] ≡ 37 ∷ rest → ⊥
none_there rest e = absurd cc

pub none_so_far : (from : Inflow) (to : Outflow) (cause : Cause) → ChecksSoFar from from to to cause
none_so_far from to cause = λ e. record {
  bytes = [];
  taken = inl (Gives-none from);
  written = record { written = []; wrote = (Takes-none to).took; accepted = λ told. absurd (none_there _ told.3) };
}
