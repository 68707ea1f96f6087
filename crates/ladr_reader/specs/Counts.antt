-- How many names a term has.
use Rattle.std.specs.Prelude.{ℕ, suc, ◌+◌}
use Rattle.fol_core.specs.RawTree.{RawTree, named, quantified, RawTrees, no_raws, more_raws}

abbrev mutual
  -- how many names a term has, those of the quantifiers' variables too
  pub names_count : RawTree → ℕ
  names_count (named s ts) = suc (names_count_of ts)
  names_count (quantified q x t) = suc (names_count t)

  pub names_count_of : RawTrees → ℕ
  names_count_of no_raws = 0
  names_count_of (more_raws t ts) = names_count t + names_count_of ts
