use Rattle.std.proofs.Common.{◌≡◌, Ok, Err, refl, subst}
use Rattle.ladr_intake.specs.Refusals.{stop_of_cut}
use Rattle.ladr_top.proofs.Ended.{stopped_in}
use Rattle.ladr_words.specs.Tasks.{HasRanges}
use Rattle.ladr_top.proofs.running.ended.Goals as goal

pub mace4-requires-clause-words : goal.mace4-requires-clause-words
mace4-requires-clause-words g c = subst HasRanges c.in-Mace4.is c.requires.ranges

pub returns-in_err-check_text-in-Check-clause-runs : goal.returns-in_err-check_text-in-Check-clause-runs
returns-in_err-check_text-in-Check-clause-runs g c = rw c.in-Check.is (Err c.in_err-check_text-in-Check.field-0.0, c.in_err-check_text-in-Check.ensures, stopped_in c.from_residual.result c.in_err-check_text-in-Check.field-0.0 c.from_residual.ensures.1)

pub returns-in_ok-check_text-in-Check-clause-runs : goal.returns-in_ok-check_text-in-Check-clause-runs
returns-in_ok-check_text-in-Check-clause-runs g c = rw c.in-Check.is (Ok c.in_ok-check_text-in-Check.field-0, c.in_ok-check_text-in-Check.ensures, refl)

pub returns-in_err-test-in-Clausetester-clause-runs : goal.returns-in_err-test-in-Clausetester-clause-runs
returns-in_err-test-in-Clausetester-clause-runs g c = rw c.in-Clausetester.is (Err c.in_err-test-in-Clausetester.field-0.0, c.in_err-test-in-Clausetester.ensures, stopped_in c.from_residual-in_err-test-in-Clausetester.result c.in_err-test-in-Clausetester.field-0.0 c.from_residual-in_err-test-in-Clausetester.ensures.1)

pub returns-in_ok-test-in-Clausetester-clause-runs : goal.returns-in_ok-test-in-Clausetester-clause-runs
returns-in_ok-test-in-Clausetester-clause-runs g c = rw c.in-Clausetester.is (Ok c.in_ok-test-in-Clausetester.field-0, c.in_ok-test-in-Clausetester.ensures, refl)

pub returns-in_err-mace4-in-Mace4-clause-runs : goal.returns-in_err-mace4-in-Mace4-clause-runs
returns-in_err-mace4-in-Mace4-clause-runs g c = rw c.in-Mace4.is (Err c.in_err-mace4-in-Mace4.field-0.0, c.in_err-mace4-in-Mace4.ensures, stopped_in c.from_residual-in_err-mace4-in-Mace4.result c.in_err-mace4-in-Mace4.field-0.0 c.from_residual-in_err-mace4-in-Mace4.ensures.1)

pub returns-in_ok-mace4-in-Mace4-clause-runs : goal.returns-in_ok-mace4-in-Mace4-clause-runs
returns-in_ok-mace4-in-Mace4-clause-runs g c = rw c.in-Mace4.is (Ok c.in_ok-mace4-in-Mace4.field-0, c.in_ok-mace4-in-Mace4.ensures, refl)

pub returns-in_err-made-in-Made-clause-runs : goal.returns-in_err-made-in-Made-clause-runs
returns-in_err-made-in-Made-clause-runs g c = rw c.in-Made.is (Err c.in_err-made-in-Made.field-0.0, c.in_err-made-in-Made.ensures, stopped_in c.from_residual-in_err-made-in-Made.result (stop_of_cut c.in_err-made-in-Made.field-0.0) c.from_residual-in_err-made-in-Made.ensures.1)

pub returns-in_ok-made-in-Made-clause-runs : goal.returns-in_ok-made-in-Made-clause-runs
returns-in_ok-made-in-Made-clause-runs g c = rw c.in-Made.is (Ok tt, c.in_ok-made-in-Made.ensures, refl)

pub returns-in_err-end-in-Prover9-clause-runs : goal.returns-in_err-end-in-Prover9-clause-runs
returns-in_err-end-in-Prover9-clause-runs g c = rw c.in-Prover9.is (Err c.in_err-end-in-Prover9.field-0.0, c.in_err-end-in-Prover9.ensures, stopped_in c.from_residual-in_err-end-in-Prover9.result c.in_err-end-in-Prover9.field-0.0 c.from_residual-in_err-end-in-Prover9.ensures.1)

pub returns-in_ok-end-in-Prover9-clause-runs : goal.returns-in_ok-end-in-Prover9-clause-runs
returns-in_ok-end-in-Prover9-clause-runs g c = rw c.in-Prover9.is (Ok c.in_ok-end-in-Prover9.end, c.in_ok-end-in-Prover9.ensures, refl)
