-- Rules of weights, as plain trees.
use Rattle.std.specs.Prelude.{ℕ, ◌+◌, List}
use Rattle.fol_core.specs.Tree.{Trees}

-- what a pattern weighs: a number, what a variable of it weighs, a sum or a product
pub data WeightTree : Type 0 where
  number : ℕ → WeightTree
  of_variable : ℕ → WeightTree
  plus : WeightTree → WeightTree → WeightTree
  times : WeightTree → WeightTree → WeightTree

-- the head of a pattern, its arguments, whose variables are numbered by first occurrence, and what
-- it weighs
pub record Rule : Type 0 where
  pub head : List ℕ
  pub arguments : Trees
  pub weight : WeightTree

-- a measure that grows with each level
abbrev pub weight_nodes : WeightTree → ℕ
weight_nodes (number n) = 1
weight_nodes (of_variable x) = 1
weight_nodes (plus v w) = weight_nodes v + weight_nodes w + 2
weight_nodes (times v w) = weight_nodes v + weight_nodes w + 2
