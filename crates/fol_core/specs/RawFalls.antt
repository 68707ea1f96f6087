-- Each part is smaller than its term.
use Rattle.std.specs.Prelude.{◌≤◌, max, List, [], ◌∷◌}
use Rattle.std.proofs.Common.{arith}
use denote.Param.Weighed.{most}
use Rattle.fol_core.specs.RawTree.{raw_nodes, raw_nodes_of, raws_of}
use Rattle.fol_core.specs.RawView.{raw_of, raw_list}
use Rattle.fol_core.specs.declared.raw.Raw.{Raw}
use Rattle.fol_core.specs.declared.raw.Raw.TheVariants.{App, Quant}
use Rattle.fol_core.specs.declared.raw.RawSub.TheDeep.{deep-Raw}

pub raw_falls : (t : Raw) → max (deep-Raw t) 0 ≤ raw_nodes (raw_of t)
raw_falls (App s ts) = omega arith
raw_falls (Quant q x t) = omega arith

pub raws_fall : (ts : List Raw) → max (most deep-Raw ts) 0 ≤ raw_nodes_of (raws_of (raw_list ts))
raws_fall [] = omega arith
raws_fall (t ∷ ts) = omega (arith, raw_falls t, raws_fall ts)
