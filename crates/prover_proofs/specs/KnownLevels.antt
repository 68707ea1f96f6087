-- The levels of lines by their numbers.
use Rattle.std.specs.Prelude.{ℕ, ◌≡◌, ◌==◌, if◌then◌else◌, List, [], ◌∷◌, Option, Some, None}
use Rattle.std.specs.BTreeMap as tree
use Rattle.std.specs.BTreeMap.{BTreeMap}
use Rattle.std.specs.Ordering.{nat_cmp}

-- the level of the first line of a number, if there is one
abbrev pub known_level : List (ℕ × ℕ) → ℕ → Option ℕ
known_level [] n = None
known_level (k ∷ ks) n = if k.0 == n then Some k.1 else known_level ks n

-- a map has these levels
abbrev pub AreLevels : BTreeMap ℕ ℕ → List (ℕ × ℕ) → Type 0
AreLevels levels ks = (n : ℕ) → tree.get nat_cmp levels n ≡ known_level ks n
