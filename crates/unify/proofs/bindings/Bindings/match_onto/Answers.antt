-- The variables of the second term are kept.
use Rattle.std.proofs.Common.{refl}
use Rattle.unify.proofs.Whole.{is_seen, look_at, begin_at, matched_at, room_kept_at}
use Rattle.unify.proofs.bindings.Bindings.match_onto.Goals as goal

pub reach-requires : goal.reach-requires
reach-requires c =
    look_at c.args.bank.now c.self.inside.work c.self.inside.nodes c.args.self.now _ _ (is_seen c.self.inside.work c.self.inside.nodes _ c.args.self.now c.self.view_is refl refl refl)
    c.self.invariant.kept c.requires.room c.requires.bindings c.requires.unbound

pub unite_or_undo-requires : goal.unite_or_undo-requires
unite_or_undo-requires c =
    begin_at c.args.bank.now c.self.inside.work _ c.self.inside.nodes c.args.self.now _ _ (is_seen c.self.inside.work c.self.inside.nodes _ c.args.self.now c.self.view_is refl refl refl)
    c.self.invariant.links c.self.invariant.reached refl refl refl c.requires.room c.requires.bindings c.requires.unbound c.reach.ensures.reach

pub returns-clause-matched : goal.returns-clause-matched
returns-clause-matched c =
    matched_at c.args.bank.now c.self.inside.work _ c.unite_or_undo.new.work c.self.inside.nodes c.args.self.now _ _ c.unite_or_undo.result
    (is_seen c.self.inside.work c.self.inside.nodes _ c.args.self.now c.self.view_is refl refl refl) refl c.requires.bindings c.requires.unbound c.reach.ensures.reach c.unite_or_undo.ensures

pub returns-clause-stays : goal.returns-clause-stays
returns-clause-stays c =
    room_kept_at c.args.bank.now c.self.inside.work _ c.unite_or_undo.new.work c.self.inside.nodes c.args.self.now _ _ c.unite_or_undo.result
    (is_seen c.self.inside.work c.self.inside.nodes _ c.args.self.now c.self.view_is refl refl refl) c.self.invariant.links c.self.invariant.reached refl refl refl c.unite_or_undo.ensures
