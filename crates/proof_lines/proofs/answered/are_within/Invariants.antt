-- the answer for the rest is that for all
use Rattle.std.proofs.Common.{◌≡◌, drop}
use Rattle.std.specs.Prelude.{nat_le}
use Rattle.fol_core.specs.RawTree.{raws_of, depth_of}
use Rattle.fol_core.specs.RawView.{raw_list}
use Rattle.proof_lines.proofs.answered.are_within.Given as goal

abbrev pub invariant-loop-term : goal.invariant-loop-term
invariant-loop-term l =
    nat_le (depth_of (raws_of (raw_list (drop l.term-index l.terms)))) 1000 ≡ nat_le (depth_of (raws_of (raw_list l.terms))) 1000
