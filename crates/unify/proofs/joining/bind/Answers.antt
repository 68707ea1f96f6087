-- A variable is bound where the term doesn't have it.
use Rattle.std.proofs.Common.{◌<◌, length, vec_capacity, arith, refl}
use Rattle.std.proofs.lemmas.Bool.{false≢true}
use Rattle.unify.proofs.Pairs.{same_goes, never_bound, bound_room, bound_joined}
use Rattle.unify.proofs.Staying.{bound_stays}
use Rattle.unify.proofs.joining.bind.Goals as goal

pub returns-then-shows-clause-goes : goal.returns-then-shows-clause-goes
returns-then-shows-clause-goes c = same_goes c.args.work.now _ (record { bound = refl; links = refl; kept = refl; vars = refl; nodes = refl; reach = c.reach.ensures.room; spare = refl })

pub returns-then-shows-clause-joins : goal.returns-then-shows-clause-joins
returns-then-shows-clause-joins c = never_bound c.args.bank.now c.args.work.now c.args.variable c.args.to c.reach.new.reached.items c.requires c.reach.ensures.reach (c.if-shows.ensures.0 refl)

pub push_reserved-requires : goal.push_reserved-requires
push_reserved-requires c =
    let lt : length c.args.work.now.bound.items < vec_capacity c.args.work.now.bound = bound_room c.args.bank.now c.args.work.now c.args.variable c.args.to c.requires in
    omega (arith, lt, c.args.work.now.bound.ok.0)

pub returns-clause-joins : goal.returns-clause-joins
returns-clause-joins c =
    bound_joined c.args.bank.now c.args.work.now _ c.args.variable c.args.to c.reach.new.reached.items
    (record { bound = c.push_reserved.ensures.items; links = refl; kept = refl; vars = c.push_reserved.ensures.capacity; nodes = refl; reach = c.reach.ensures.room; spare = refl })
    c.requires c.reach.ensures.reach (λ h. false≢true (c.if-shows.ensures.1 h))

pub returns-clause-stays : goal.returns-clause-stays
returns-clause-stays c =
    bound_stays c.args.bank.now c.args.work.now _ c.args.variable c.args.to c.reach.new.reached.items
    (record { bound = c.push_reserved.ensures.items; links = refl; kept = refl; vars = c.push_reserved.ensures.capacity; nodes = refl; reach = c.reach.ensures.room; spare = refl })
    c.requires c.reach.ensures.reach (λ h. false≢true (c.if-shows.ensures.1 h))
