use Rattle.std.proofs.Common.{arith}
use Rattle.resolution.specs.View.{all_conclusions}
use Rattle.resolution.proofs.Going.{lent_added, lent_all}
use Rattle.resolution.proofs.Nucleated.{units_tried}
use Rattle.resolution.proofs.nuclei.add_unit_clashes_of_each.Goals as goal

pub loop-nucleus-preserved : goal.loop-nucleus-preserved
loop-nucleus-preserved c =
    lent_added (units_tried c.args.held.now c.args.given.now) c.args.nuclei.now c.loop-nucleus.nucleus-index c.nucleus-item.result (all_conclusions c.args.made.now.items)
    (all_conclusions c.loop-nucleus.made.items) _ (omega arith) c.nucleus-item.is c.loop-nucleus.invariant c.in_ok-add_unit_clashes_of.ensures

pub returns : goal.returns
returns c =
    lent_all (units_tried c.args.held.now c.args.given.now) c.args.nuclei.now c.loop-nucleus.nucleus-index (all_conclusions c.args.made.now.items)
    (all_conclusions c.loop-nucleus.made.items) (omega arith) c.loop-nucleus.invariant
