-- The places are there, and what is left.
use Rattle.std.proofs.Common.{true, ap}
use Rattle.fol_core.specs.TermView.{tree_of}
use Rattle.inference.specs.Left.{all_left}
use Rattle.inference.proofs.ClashSteps.{place_within}
use Rattle.inference.proofs.OneSteps.{sign_place}
use Rattle.inference.proofs.ParaSteps.{para_leaves}
use Rattle.derivation.proofs.Lawful.{para_parts}
use Rattle.inference.proofs.applying.para_left.Goals as goal

pub leave_changed-requires : goal.leave_changed-requires
leave_changed-requires c =
    let at = c.args.at in
    place_within c.args.into.now at.literal (para_parts at.equation at.side at.literal at.path.now c.args.from.now c.args.into.now c.requires.fits).place

pub leave_others-requires : goal.leave_others-requires
leave_others-requires c =
    let at = c.args.at in
    place_within c.args.from.now at.equation (sign_place true c.args.from.now at.equation (para_parts at.equation at.side at.literal at.path.now c.args.from.now c.args.into.now c.requires.fits).positive)

pub returns : goal.returns
returns c =
    let at = c.args.at in
    para_leaves at.equation at.side at.literal at.path.now c.args.from.now c.args.into.now (tree_of c.args.other.now) (all_left c.in_ok-left.left.items) (all_left c.leave_changed.new.left.items) (all_left c.leave_others.new.left.items)
    c.requires.fits c.requires.other (ap all_left c.in_ok-left.ensures.items) c.in_ok-leave_changed.ensures c.in_ok-leave_others.ensures
