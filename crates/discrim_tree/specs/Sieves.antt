-- Numbers under terms.
use Rattle.std.specs.Prelude.{ℕ, ◌≡◌, IsTrue, List}
use Rattle.std.specs.List.{Contains}
use Rattle.fol_core.specs.Tree.{Tree}
use Rattle.discrim_tree.specs.Nodes.{Reaches}
use Rattle.discrim_tree.specs.Paths.{path_of}
use Rattle.discrim_tree.specs.Seeking.{passes}
use Rattle.discrim_tree.specs.declared.sieve.Sieve.{Sieve}
use Rattle.discrim_tree.specs.declared.sought.Sought.{Sought}

-- a number stands at the end of a term's path
unfoldable pub IsUnder : Sieve → Tree → ℕ → Type 0
IsUnder sieve t n = Reaches sieve.nodes.items 0 (path_of t) n

-- numbers stay under their terms
abbrev pub StayUnder : Sieve → Sieve → Type 0
StayUnder old new = (t : Tree) (n : ℕ) → IsUnder old t n → IsUnder new t n

-- numbers but for one do
abbrev pub OthersStay : ℕ → Sieve → Sieve → Type 0
OthersStay m old new = (t : Tree) (n : ℕ) → (n ≡ m → ⊥) → IsUnder old t n → IsUnder new t n

-- none of the numbers under terms that are sought is left out
abbrev pub LeavesOutNone : Sieve → Sought → Tree → List ℕ → Type 0
LeavesOutNone sieve sought t ns =
    (s : Tree) (n : ℕ) → IsUnder sieve s n → IsTrue (passes sought t s) → Contains ns n
