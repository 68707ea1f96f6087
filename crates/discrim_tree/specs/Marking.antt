-- Walks through a tree of lists of marks.
use Rattle.std.specs.Prelude.{ℕ, ◌≡◌, ◌⊎◌, ◌||◌, Bool, false, nat_lt, List, ◌∷◌, Option, Some, MatchOption, drop, length, map}
use Rattle.std.specs.List.{Contains}
use Rattle.std.specs.List.Sorted.{IsStrictlyIncreasing}
use Rattle.std.specs.Option.{option_map_or}
use Rattle.slab.specs.Slab.{get}
use Rattle.discrim_tree.specs.Contents.{target}
use Rattle.discrim_tree.specs.Marks.{AreAmong, mark_step}
use Rattle.discrim_tree.specs.Nodes.{Store, Reaches}
use Rattle.discrim_tree.specs.declared.edge.Edge.{Edge}
use Rattle.discrim_tree.specs.declared.marking.Meeting.{Meeting}

-- a number lies ahead of one of those that wait
abbrev pub IsToCome : {X : Type 0} → (X → ℕ → Type 0) → List X → ℕ → Type 0
IsToCome {X} IsAhead waiting n = (x : X) × Contains waiting x × IsAhead x n

-- each number that lies ahead of one is found, or is ahead of one of those that wait
abbrev pub Yields : {X : Type 0} → (X → ℕ → Type 0) → X → List ℕ → List X → Type 0
Yields {X} IsAhead x numbers waiting =
    (n : ℕ) → IsAhead x n → Contains numbers n ⊎ IsToCome IsAhead waiting n

-- whether a node has more numbers than so many, or more numbers or branches
abbrev pub has_many_numbers : Store → ℕ → ℕ → Bool
has_many_numbers nodes at most =
    option_map_or (λ node. nat_lt most (length node.contents.numbers)) (get nodes at) false

abbrev pub is_wide : Store → ℕ → ℕ → Bool
is_wide nodes at most =
    option_map_or (λ node. nat_lt most (length node.contents.numbers)
    || nat_lt most (length node.contents.branches)) (get nodes at) false

-- ---- lists all of whose marks are among others

-- from a node such a list leads to a number
abbrev pub IsWithin : Store → List ℕ → ℕ → ℕ → Type 0
IsWithin nodes marks at n =
    (ms : List ℕ) × AreAmong ms marks × Reaches nodes at (map mark_step ms) n

-- the nodes to which the branches of marks lead wait
abbrev pub EntersWithin : List (Edge × ℕ) → List ℕ → List ℕ → Type 0
EntersWithin branches marks waiting =
    (m k : ℕ) → target branches (mark_step m) ≡ Some k → Contains marks m → Contains waiting k

-- ---- rising lists that have all of some marks

-- from a node a rising list that has the marks that are left leads to a number
abbrev pub IsOver : Store → List ℕ → Meeting → ℕ → Type 0
IsOver nodes marks s n =
    (ms : List ℕ) × IsStrictlyIncreasing ms × AreAmong (drop s.met marks) ms
    × Reaches nodes s.node (map mark_step ms) n

-- how many marks are met behind the first one of a rising list that has all that are left: those that
-- are left then are in its rest; where it is none, there is no such list
abbrev pub MeetsBehind : List ℕ → ℕ → ℕ → Option ℕ → Type 0
MeetsBehind marks met m behind =
    (ms : List ℕ) → IsStrictlyIncreasing (m ∷ ms) → AreAmong (drop met marks) (m ∷ ms)
    → MatchOption behind ⊥ (λ next. AreAmong (drop next marks) ms)

-- a node waits, behind which the marks that are left are those of a list
abbrev pub IsToMeet : List ℕ → List Meeting → ℕ → List ℕ → Type 0
IsToMeet marks waiting k ms =
    (s : Meeting) × Contains waiting s × (s.node ≡ k) × AreAmong (drop s.met marks) ms

-- the nodes wait to which branches lead by the first marks of such lists
abbrev pub EntersOver : List (Edge × ℕ) → List ℕ → ℕ → List Meeting → Type 0
EntersOver branches marks met waiting =
    (m k : ℕ) → target branches (mark_step m) ≡ Some k → (ms : List ℕ)
    → IsStrictlyIncreasing (m ∷ ms) → AreAmong (drop met marks) (m ∷ ms)
    → IsToMeet marks waiting k ms
