-- those so far aren't wide
use Rattle.std.proofs.Common.{◌≡◌, drop}
use Rattle.fol_core.specs.RawTree.{raws_of}
use Rattle.fol_core.specs.RawView.{raw_list}
use Rattle.ladr_formulas.specs.Counting.{are_wide}
use Rattle.ladr_formulas.proofs.counting.+is_wide.Given as goal

abbrev pub invariant-loop-arg : goal.invariant-loop-arg
invariant-loop-arg l = are_wide (raws_of (raw_list (drop l.arg-index l.arg-items))) ≡ are_wide (raws_of (raw_list l.arg-items))
