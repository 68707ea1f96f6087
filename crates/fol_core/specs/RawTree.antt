-- Terms as they are read, as plain trees of names.
use Rattle.std.specs.Prelude.{ℕ, ◌+◌, max, suc, List, [], ◌∷◌}
use Rattle.fol_core.specs.declared.raw.Quantifier.{Quantifier}

mutual
  -- a name applied to arguments (an atom has none); a quantifier, its variable and its body
  pub data RawTree : Type 0 where
    named : List ℕ → RawTrees → RawTree
    quantified : Quantifier → List ℕ → RawTree → RawTree

  pub data RawTrees : Type 0 where
    no_raws : RawTrees
    more_raws : RawTree → RawTrees → RawTrees

-- the arguments that a list gives
abbrev pub raws_of : List RawTree → RawTrees
raws_of [] = no_raws
raws_of (t ∷ ts) = more_raws t (raws_of ts)

abbrev mutual
  -- the levels of a tree: an atom has one, any other term one more than its deepest part
  pub depth : RawTree → ℕ
  depth (named s ts) = suc (depth_of ts)
  depth (quantified q x t) = suc (depth t)

  pub depth_of : RawTrees → ℕ
  depth_of no_raws = 0
  depth_of (more_raws t ts) = max (depth t) (depth_of ts)

abbrev mutual
  -- a measure that grows by two with each level
  pub raw_nodes : RawTree → ℕ
  raw_nodes (named s ts) = raw_nodes_of ts + 2
  raw_nodes (quantified q x t) = raw_nodes t + 2

  pub raw_nodes_of : RawTrees → ℕ
  raw_nodes_of no_raws = 0
  raw_nodes_of (more_raws t ts) = raw_nodes t + raw_nodes_of ts

abbrev pub raw_nodes_of_list : List RawTree → ℕ
raw_nodes_of_list ts = raw_nodes_of (raws_of ts)
