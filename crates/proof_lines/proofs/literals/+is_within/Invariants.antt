-- the answer for the rest is that for all
use Rattle.std.proofs.Common.{◌≡◌, ◌-◌, drop}
use Rattle.std.specs.Prelude.{nat_le}
use Rattle.fol_core.specs.RawTree.{raws_of, depth_of}
use Rattle.fol_core.specs.RawView.{raw_list}
use Rattle.proof_lines.proofs.literals.+is_within.Given as goal

abbrev pub invariant-loop-argument : goal.invariant-loop-argument
invariant-loop-argument l =
    nat_le (depth_of (raws_of (raw_list (drop l.argument-index l.argument-items)))) (l.most - 1) ≡ nat_le (depth_of (raws_of (raw_list l.argument-items))) (l.most - 1)
