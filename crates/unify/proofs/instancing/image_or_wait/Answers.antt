-- What was walked to was built, or waits.
use Rattle.std.proofs.Common.{subst, sym}
use Rattle.unify.specs.Instanced.{AreLoose}
use Rattle.unify.proofs.Becoming.{image_is, one_loose, walked_loose}
use Rattle.unify.proofs.instancing.image_or_wait.Goals as goal

pub returns-in_err-push-in-None-clause-loose : goal.returns-in_err-push-in-None-clause-loose
returns-in_err-push-in-None-clause-loose c = subst (AreLoose c.args.bank.now c.args.bound.now.items) (sym c.in_err-push-in-None.ensures.items) c.requires.building.loose

pub returns-in-Some-clause-image : goal.returns-in-Some-clause-image
returns-in-Some-clause-image c =
    image_is c.args.bank.now c.args.bound.now.items c.args.images.now.items c.args.pending.now.items c.args.argument c.walk-next.result c.in-Some.id c.requires.building c.walk-next.ensures.result c.in-Some.ensures

pub returns-in_ok-push-in-None-clause-loose : goal.returns-in_ok-push-in-None-clause-loose
returns-in_ok-push-in-None-clause-loose c =
    one_loose c.args.bank.now c.args.bound.now.items c.args.pending.now.items c.push.new.self.items c.walk-next.result c.requires.building.loose
    (walked_loose c.args.bank.now c.args.bound.now.items c.args.argument c.walk-next.result c.requires.building.bindings c.walk-next.ensures.result c.walk-next.ensures.spot)
    c.in_ok-push-in-None.ensures.items
