use Rattle.std.proofs.Common.{arith}
use Rattle.resolution.specs.Opposing.{numbers_by}
use Rattle.resolution.proofs.Going.{lent_added, lent_all}
use Rattle.resolution.proofs.opposing.add_nuclei_each.Goals as goal

pub loop-satellite-preserved : goal.loop-satellite-preserved
loop-satellite-preserved c =
    lent_added (numbers_by c.args.kind c.args.held.now) c.args.satellites.now c.loop-satellite.satellite-index c.satellite-item.result c.args.numbers.now.items
    c.loop-satellite.numbers.items _ (omega arith) c.satellite-item.is c.loop-satellite.invariant c.in_ok-add_nuclei.ensures

pub returns : goal.returns
returns c =
    lent_all (numbers_by c.args.kind c.args.held.now) c.args.satellites.now c.loop-satellite.satellite-index c.args.numbers.now.items
    c.loop-satellite.numbers.items (omega arith) c.loop-satellite.invariant
