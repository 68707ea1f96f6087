use Rattle.std.proofs.Common.{◌≡◌, ◌∙◌, [], Ok, Err, refl}
use Rattle.ladr_clausetester.proofs.Testings.{runs_by}
use Rattle.ladr_clausetester.specs.Testing.{IsTested}
use Rattle.ladr_formulas.specs.declared.styles.Mode.TheVariants.{Tester}
use Rattle.ladr_intake.proofs.Commands.{in_every_language, none_runs}
use Rattle.ladr_intake.proofs.Readings.{problem_refused}
use Rattle.ladr_intake.specs.Posed.{interprets}
use Rattle.ladr_intake.specs.Refusals.{refuses}
use Rattle.ladr_clausetester.proofs.testing.clausetester.Goals as goal

pub returns-in_err-bytes : goal.returns-in_err-bytes
returns-in_err-bytes g c = none_runs interprets (refuses Tester) (Unit {0}) (λ x text. text ≡ []) IsTested _ _ _ _ c.in_err-bytes.field-0.0 c.from_residual.result tt (in_every_language (refuses Tester) _ _ _ _ _ c.in_err-bytes.ensures.none) c.from_residual.ensures.1

pub returns-in_err-read : goal.returns-in_err-read
returns-in_err-read g c =
    none_runs interprets (refuses Tester) (Unit {0}) (λ x text. text ≡ []) IsTested _ _ _ _ c.in_err-read.field-0.0 c.from_residual-in_err-read.result tt
    (problem_refused Tester _ _ c.in_ok-bytes.bytes.items c.deref.result.now _ _ _ c.read_problem.result _ c.in_ok-bytes.ensures.read c.deref.ensures.value c.read_problem.ensures.refused c.in_ok-bytes.ensures.kept c.in_err-read.ensures.refused) c.from_residual-in_err-read.ensures.1

pub returns-in_err-test : goal.returns-in_err-test
returns-in_err-test g c =
    let said = c.read_problem.ensures.read in
    runs_by IsTested c.in_ok-read.read _ _ c.in_ok-bytes.bytes.items c.deref.result.now _ _ _ (Err c.in_err-test.field-0.0) c.from_residual-in_err-test.result c.in_ok-bytes.ensures.read c.deref.ensures.value (rw c.in_ok-read.ensures.read at said) (c.in_ok-read.ensures.kept ∙ c.in_ok-bytes.ensures.kept) c.in_err-test.ensures c.from_residual-in_err-test.ensures.1

pub returns : goal.returns
returns g c =
    let said = c.read_problem.ensures.read in
    runs_by IsTested c.in_ok-read.read _ _ c.in_ok-bytes.bytes.items c.deref.result.now _ _ _ (Ok c.in_ok-test.field-0) _ c.in_ok-bytes.ensures.read c.deref.ensures.value (rw c.in_ok-read.ensures.read at said) (c.in_ok-read.ensures.kept ∙ c.in_ok-bytes.ensures.kept) c.in_ok-test.ensures refl
