-- The terms were made the same.
use Rattle.std.proofs.Common.{refl}
use Rattle.unify.proofs.Whole.{ended}
use Rattle.unify.proofs.ending.unite_or_undo.Goals as goal

pub returns-then-unite : goal.returns-then-unite
returns-then-unite c =
    ended c.args.bank.now c.args.work.now _ c.unite.new.work c.args.s c.args.t c.requires
    (record { bound = refl; links = c.clear.ensures.items; kept = refl; vars = refl; nodes = c.clear.ensures.capacity; reach = refl; spare = refl })
    c.unite.ensures.goes c.if-unite.ensures.made c.if-unite.ensures.stays
