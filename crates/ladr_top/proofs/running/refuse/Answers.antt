use Rattle.std.proofs.Common.{◌≡◌, Ok, Err, refl}
use Rattle.ladr_intake.specs.Refusals.{stop_of_cut}
use Rattle.ladr_top.proofs.Ended.{stopped_in}
use Rattle.ladr_top.specs.Words.{no_command_line}
use Rattle.ladr_top.proofs.running.refuse.Goals as goal

pub returns-in_err-piece : goal.returns-in_err-piece
returns-in_err-piece g c = (Err c.in_err-piece.field-0.0, c.in_err-piece.ensures.printed no_command_line c.no_command.ensures, stopped_in c.from_residual.result (stop_of_cut c.in_err-piece.field-0.0) c.from_residual.ensures.1)

pub returns : goal.returns
returns g c = (Ok tt, c.in_ok-piece.ensures.printed no_command_line c.no_command.ensures, refl)
