use Rattle.std.proofs.Common.{◌≤◌, length, Ok, Err, inl, inr, refl, arith}
use Rattle.std.proofs.lemmas.Result.{err_from_is_err_and}
use Rattle.ladr_intake.specs.Refusals.{read_fault_line}
use Rattle.ladr_intake.specs.declared.stops.Refused.TheVariants.{TooLarge}
use Rattle.ladr_intake.specs.declared.stops.Stop.TheVariants as stops
use Rattle.ladr_io.proofs.StreamLaws.{Takes-none}
use Rattle.ladr_lex.specs.declared.limits.TheConstants.{MOST_BYTES}
use Rattle.ladr_problem.specs.declared.refusal.Limit.TheVariants.{Input}
use Rattle.ladr_intake.proofs.taking.take_bytes.Goals as goal

pub returns-in-Ok-clause-read : goal.returns-in-Ok-clause-read
returns-in-Ok-clause-read g c =
    let few : length c.in-Ok.bytes.items ≤ MOST_BYTES = omega (arith, c.in-Ok.ensures.within, c.in-Ok.bytes.ok.0) in
    (c.in-Ok.ensures.gives, few)

pub returns-in-Err-TooLarge-clause-none : goal.returns-in-Err-TooLarge-clause-none
returns-in-Err-TooLarge-clause-none g c =
    let long = c.in-Err-TooLarge.ensures.given_too_large (cc) in
    (stops.Refused (TooLarge MOST_BYTES Input), (long.bytes, inr ((long.holds, long.count), refl)), c.refuse.ensures)

pub returns-in_err-piece-in-Err-Failed-clause-none : goal.returns-in_err-piece-in-Err-Failed-clause-none
returns-in_err-piece-in-Err-Failed-clause-none g c =
    let p = err_from_is_err_and c.from_residual.result c.from_residual.ensures.1 in
    let failed = c.in-Err-Failed.ensures.given_failed (cc) in
    rw (p.1, p.2) (stops.ReadFault, (failed.bytes, (failed.holds, failed.count)), (Err c.in_err-piece-in-Err-Failed.field-0.0, c.in_err-piece-in-Err-Failed.ensures.printed read_fault_line c.read_fault.ensures, refl))

pub returns-in_ok-piece-in-Err-Failed-clause-none : goal.returns-in_ok-piece-in-Err-Failed-clause-none
returns-in_ok-piece-in-Err-Failed-clause-none g c =
    let failed = c.in-Err-Failed.ensures.given_failed (cc) in
    (stops.ReadFault, (failed.bytes, (failed.holds, failed.count)), (Ok tt, c.in_ok-piece-in-Err-Failed.ensures.printed read_fault_line c.read_fault.ensures, refl))

pub returns-in-Err-Memory-clause-none : goal.returns-in-Err-Memory-clause-none
returns-in-Err-Memory-clause-none g c =
    let lacking = c.in-Err-Memory.ensures.given_memory (cc) in
    (stops.Memory, (lacking.bytes, inl lacking.holds), (refl, Takes-none _))
