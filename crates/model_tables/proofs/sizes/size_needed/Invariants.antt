-- what is needed so far and for the formulas to come is what is needed for all
use Rattle.std.proofs.Common.{◌≡◌, max, drop}
use Rattle.fol_core.specs.Occurs.{size_needed}
use Rattle.model_tables.proofs.Sizing.{fols}
use Rattle.model_tables.proofs.sizes.size_needed.Given as goal

abbrev pub invariant-loop-input : goal.invariant-loop-input
invariant-loop-input l = max l.needed (size_needed (fols (drop l.input-index l.input-items))) ≡ size_needed (fols l.input-items)
