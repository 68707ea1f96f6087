-- Why a run ended, and its exit status.
use Rattle.std.specs.Prelude.{ℕ}
use Rattle.std.specs.declared.result.Result.{Result}
use Rattle.std.specs.declared.result.Result.TheVariants.{Ok, Err}
use Rattle.ladr_check.specs.Outcomes.{check_status}
use Rattle.ladr_check.specs.declared.ends.CheckEnd.{CheckEnd}
use Rattle.ladr_clausetester.specs.declared.testing.Tested.{Tested}
use Rattle.ladr_intake.specs.declared.stops.Stop.{Stop}
use Rattle.ladr_intake.specs.declared.stops.Stop.TheVariants as stops
use Rattle.ladr_mace4.specs.Statuses.{end_status}
use Rattle.ladr_mace4.specs.declared.ends.SearchEnd.{SearchEnd}
use Rattle.ladr_prover9.specs.Statuses.{prover_status}
use Rattle.ladr_prover9.specs.declared.ends.ProverEnd.{ProverEnd}
use Rattle.ladr_top.specs.declared.cause.Cause.{Cause}
use Rattle.ladr_top.specs.declared.cause.Cause.TheVariants.{Words, Refused, ReadFault, WriteFault, Memory, Check, Clausetester, Mace4, Made, Prover9}

-- a command came to no end of its own
abbrev pub cause_of : Stop → Cause
cause_of (stops.Refused why) = Refused why
cause_of stops.ReadFault = ReadFault
cause_of stops.WriteFault = WriteFault
cause_of stops.Memory = Memory

-- a command ended so
abbrev pub cause_by : {E : Type 0} → (E → Cause) → Result E Stop → Cause
cause_by own (Ok end) = own end
cause_by own (Err stop) = cause_of stop

-- the exit status of each cause
abbrev pub status_of : Cause → ℕ
status_of Words = 9
status_of (Refused why) = 1
status_of ReadFault = 10
status_of WriteFault = 11
status_of Memory = 12
status_of (Check end) = check_status end
status_of (Clausetester end) = 0
status_of (Mace4 end) = end_status end
status_of Made = 0
status_of (Prover9 end) = prover_status end
