-- There is room still for what took part.
use Rattle.std.proofs.Common.{refl}
use Rattle.unify.proofs.Whole.{is_seen, room_kept_at}
use Rattle.unify.proofs.bindings.Bindings.unify.Goals as goal

pub returns-clause-stays : goal.returns-clause-stays
returns-clause-stays c =
    room_kept_at c.args.bank.now c.self.inside.work _ c.unite_or_undo.new.work c.self.inside.nodes c.args.self.now _ _ c.unite_or_undo.result
    (is_seen c.self.inside.work c.self.inside.nodes _ c.args.self.now c.self.view_is refl refl refl) c.self.invariant.links c.self.invariant.reached refl refl refl c.unite_or_undo.ensures
