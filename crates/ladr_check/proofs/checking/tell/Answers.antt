use Rattle.std.proofs.Common.{◌≡◌, [], refl}
use Rattle.std.proofs.lemmas.Result.{err_from_is_err_and}
use Rattle.ladr_check.specs.CheckReport.{check_report}
use Rattle.ladr_check.specs.Checking.{IsChecked}
use Rattle.ladr_check.specs.Offered.{offered_by}
use Rattle.ladr_io.proofs.StreamLaws.{Takes-none}
use Rattle.ladr_output.proofs.Tellings.{ended_by}
use Rattle.ladr_check.proofs.checking.tell.Goals as goal

pub returns-in_err-over : goal.returns-in_err-over
returns-in_err-over g c =
    let p = err_from_is_err_and c.from_residual.result c.from_residual.ensures.1 in
    rw (p.1, p.2) ([], refl, Takes-none _)

pub returns : goal.returns
returns g c =
    let over = c.in_ok-over.over in
    ended_by (λ text. text ≡ []) (IsChecked (offered_by c.args.read)) over.end (check_report over.accepted over.end) _ _ c.ending.result refl (over.accepted, c.in_ok-over.ensures, refl) (c.ending.ensures.printed (check_report over.accepted over.end) c.report.ensures)
