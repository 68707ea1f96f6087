-- Numbers under lists of marks.
use Rattle.std.specs.Prelude.{ℕ, ◌≡◌, List, map}
use Rattle.std.specs.List.{Contains}
use Rattle.discrim_tree.specs.Nodes.{Reaches}
use Rattle.discrim_tree.specs.declared.edge.Edge.{Edge}
use Rattle.discrim_tree.specs.declared.edge.Edge.TheVariants.{Symbol}
use Rattle.discrim_tree.specs.declared.marks.MarkSieve.{MarkSieve}

-- the step of a mark
abbrev pub mark_step : ℕ → Edge
mark_step m = Symbol m 0

-- a number stands at the end of the path of a list of marks
unfoldable pub IsMarked : MarkSieve → List ℕ → ℕ → Type 0
IsMarked sieve ms n = Reaches sieve.nodes.items 0 (map mark_step ms) n

-- numbers stay under their lists
abbrev pub StayMarked : MarkSieve → MarkSieve → Type 0
StayMarked old new = (ms : List ℕ) (n : ℕ) → IsMarked old ms n → IsMarked new ms n

-- numbers but for one do
abbrev pub OthersStayMarked : ℕ → MarkSieve → MarkSieve → Type 0
OthersStayMarked m old new =
    (ms : List ℕ) (n : ℕ) → (n ≡ m → ⊥) → IsMarked old ms n → IsMarked new ms n

-- what is in the first list is in the second
abbrev pub AreAmong : {X : Type 0} → List X → List X → Type 0
AreAmong {X} xs ys = (x : X) → Contains xs x → Contains ys x
