use Rattle.std.proofs.Common.{length, ap, arith, map}
use Rattle.resolution.specs.Trying.{partner_of}
use Rattle.resolution.proofs.Standing.{stand_literal, stand_literals}
use Rattle.resolution.proofs.partners.add_literals.Goals as goal

pub loop-literal-preserved : goal.loop-literal-preserved
loop-literal-preserved c =
    stand_literal c.args.nucleus.now c.args.place c.args.held.now c.loop-literal.literal (map partner_of c.args.candidates.now.items) (map partner_of c.loop-literal.candidates.items) _
    (omega (arith, ap length c.clause.ensures)) c.loop-literal.invariant c.in_ok-add_literal.ensures

pub returns : goal.returns
returns c =
    stand_literals c.args.nucleus.now c.args.place c.args.held.now c.loop-literal.literal (map partner_of c.args.candidates.now.items) (map partner_of c.loop-literal.candidates.items)
    (omega (arith, ap length c.clause.ensures)) c.loop-literal.invariant
