-- One more link.
use Rattle.std.proofs.Common.{◌<◌, ◌∙◌, length, vec_capacity, arith, refl}
use Rattle.std.proofs.lemmas.Bool.{false≢true}
use Rattle.unify.proofs.Pairs.{link_room, linked_joined}
use Rattle.unify.proofs.Walks.{spot_iff}
use Rattle.unify.proofs.Staying.{linked_stays}
use Rattle.unify.proofs.joining.link.Goals as goal

pub push_reserved-requires : goal.push_reserved-requires
push_reserved-requires c =
    let lt : length c.args.work.now.links.items < vec_capacity c.args.work.now.links = link_room c.args.bank.now c.args.work.now c.args.from c.args.to c.requires.join in
    omega (arith, lt, c.args.work.now.links.ok.0)

pub returns-then-not-same-clause-joins : goal.returns-then-not-same-clause-joins
returns-then-not-same-clause-joins c =
    linked_joined c.args.bank.now c.args.work.now _ c.args.from c.args.to
    (record { bound = refl; links = c.push_reserved.ensures.items; kept = refl; vars = refl; nodes = c.push_reserved.ensures.capacity; reach = refl; spare = refl })
    c.requires (λ e. false≢true (c.if-not-same.ensures ∙ (spot_iff c.args.from c.args.to).1 e))

pub returns-then-not-same-clause-stays : goal.returns-then-not-same-clause-stays
returns-then-not-same-clause-stays c =
    linked_stays c.args.bank.now c.args.work.now _ c.args.from c.args.to
    (record { bound = refl; links = c.push_reserved.ensures.items; kept = refl; vars = refl; nodes = c.push_reserved.ensures.capacity; reach = refl; spare = refl })
    c.requires (λ e. false≢true (c.if-not-same.ensures ∙ (spot_iff c.args.from c.args.to).1 e))
