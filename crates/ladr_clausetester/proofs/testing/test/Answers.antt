use Rattle.std.proofs.Common.{◌≡◌, [], refl}
use Rattle.std.proofs.lemmas.Result.{err_from_is_err_and}
use Rattle.ladr_clausetester.specs.Testing.{IsTested}
use Rattle.ladr_clausetester.specs.declared.testing.Tested.TheVariants.{All}
use Rattle.ladr_intake.specs.Posed.{interpreted_by}
use Rattle.ladr_io.proofs.StreamLaws.{Takes-none}
use Rattle.ladr_output.proofs.Tellings.{ended_by}
use Rattle.ladr_clausetester.proofs.testing.test.Goals as goal

pub returns-in_err-text : goal.returns-in_err-text
returns-in_err-text g c =
    let p = err_from_is_err_and c.from_residual.result c.from_residual.ensures.1 in
    rw (p.1, p.2) ([], refl, Takes-none _)

pub returns : goal.returns
returns g c =
    let text = c.in_ok-text.text.items in
    ended_by (λ text. text ≡ []) (IsTested (interpreted_by c.args.read.now)) All text _ _ c.ending.result refl c.in_ok-text.ensures (c.ending.ensures.printed text refl)
