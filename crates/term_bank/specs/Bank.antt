-- Terms by number.
use Rattle.std.specs.Prelude.{ℕ, ◌+◌, ◌<◌, ◌≡◌, max, min, List, ◌++◌, length}
use Rattle.std.specs.List.{slice_index_or}
use Rattle.fol_core.specs.Tree.{Tree, var, elem, app, Trees, none, more}

-- the term of this number
abbrev pub tree_at : List Tree → ℕ → Tree
tree_at bank n = slice_index_or bank n (var 0)

-- the number is one of the bank's, and the term is its term
pub record IsAt (bank : List Tree) (n : ℕ) (t : Tree) : Type 0 where
  pub within : n < length bank
  pub tree : tree_at bank n ≡ t

-- each number means what it did; there may be more
abbrev pub Grows : List Tree → List Tree → Type 0
Grows old new = (others : List Tree) × (new ≡ old ++ others)

-- no term has two numbers
abbrev pub AreOnce : List Tree → Type 0
AreOnce bank =
    (i j : ℕ) → i < length bank → j < length bank → tree_at bank i ≡ tree_at bank j → i ≡ j
