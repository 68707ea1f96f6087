-- How many symbols a term has, and how many levels.
use Rattle.std.specs.Prelude.{ℕ, ◌+◌, max, min}
use Rattle.fol_core.specs.Tree.{Tree, var, elem, app, Trees, none, more}

abbrev mutual
  -- how many symbols and variables stand in a term, each as often as it stands there
  pub size_of : Tree → ℕ
  size_of (var x) = 1
  size_of (elem k) = 1
  size_of (app f ts) = sizes_of ts + 1

  pub sizes_of : Trees → ℕ
  sizes_of none = 0
  sizes_of (more t ts) = size_of t + sizes_of ts

abbrev mutual
  -- how many levels a term has: one more than its deepest argument
  pub depth_of : Tree → ℕ
  depth_of (var x) = 1
  depth_of (elem k) = 1
  depth_of (app f ts) = depths_of ts + 1

  pub depths_of : Trees → ℕ
  depths_of none = 0
  depths_of (more t ts) = max (depth_of t) (depths_of ts)

-- a count that stops at the greatest number of 64 bits
abbrev pub saturated : ℕ → ℕ
saturated n = min n 18446744073709551615
