use Rattle.std.proofs.Common.{Ok, Err, refl}
use Rattle.ladr_intake.specs.Refusals.{refusal_text}
use Rattle.ladr_intake.proofs.refusing.refuse.Goals as goal

pub returns-in-Ok : goal.returns-in-Ok
returns-in-Ok g c = (Ok tt, c.in-Ok.ensures.printed (refusal_text c.args.refused) c.refusal.ensures, refl)

pub returns-in-Err : goal.returns-in-Err
returns-in-Err g c = (Err c.in-Err.cut, c.in-Err.ensures.printed (refusal_text c.args.refused) c.refusal.ensures, c.from.ensures)
