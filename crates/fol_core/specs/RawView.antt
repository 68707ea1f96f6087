-- The tree of a term as read, of the code.
use Rattle.std.specs.Prelude.{List, map}
use Rattle.fol_core.specs.RawTree.{RawTree, named, quantified, raws_of}
use Rattle.fol_core.specs.declared.raw.Raw.{Raw}
use Rattle.fol_core.specs.declared.raw.Raw.TheVariants.{App, Quant}

abbrev pub raw_of : Raw → RawTree
raw_of (App s ts) = named s (raws_of ts)
raw_of (Quant q x t) = quantified q x t

-- and of each term of a list
abbrev pub raw_list : List Raw → List RawTree
raw_list ts = map raw_of ts
