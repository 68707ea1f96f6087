-- The nodes of a tree of paths.
use Rattle.std.specs.Prelude.{ℕ, ◌≡◌, ◌⊎◌, List, [], ◌∷◌, ◌++◌, Option, Some, MatchOption}
use Rattle.std.specs.Option.{option_and_then}
use Rattle.slab.specs.Slab.{Slab, get}
pub use Rattle.discrim_tree.specs.Contents.{edge_cmp}
use Rattle.discrim_tree.specs.Contents.{target}
use Rattle.discrim_tree.specs.declared.edge.Edge.{Edge}
use Rattle.discrim_tree.specs.declared.nodes.Node.{Node}

-- nodes under their keys
abbrev pub Store : Type 0
Store = Slab Node

-- a number is in a list
abbrev pub IsIn : ℕ → List ℕ → Type 0
IsIn n [] = ⊥
IsIn n (m ∷ ms) = (n ≡ m) ⊎ IsIn n ms

-- where a step leads from a node
abbrev pub branch : Node → Edge → Option ℕ
branch node edge = target node.contents.branches edge

abbrev pub child : Store → ℕ → Edge → Option ℕ
child nodes at edge = option_and_then (λ node. branch node edge) (get nodes at)

-- a node has a number
abbrev pub Holds : Store → ℕ → ℕ → Type 0
Holds nodes at n = MatchOption (get nodes at) ⊥ (λ node. IsIn n node.contents.numbers)

-- from a node a path leads to a number
abbrev pub Reaches : Store → ℕ → List Edge → ℕ → Type 0
Reaches nodes at [] n = Holds nodes at n
Reaches nodes at (edge ∷ path) n = (k : ℕ) × (child nodes at edge ≡ Some k) × Reaches nodes k path n

-- branches and numbers stay
abbrev pub Grows : Store → Store → Type 0
Grows old new =
    ((at : ℕ) (edge : Edge) (k : ℕ) → child old at edge ≡ Some k → child new at edge ≡ Some k)
    × ((at : ℕ) (n : ℕ) → Holds old at n → Holds new at n)

-- paths to other numbers stay
abbrev pub KeepsOthers : ℕ → Store → Store → Type 0
KeepsOthers n old new =
    (at : ℕ) (path : List Edge) (m : ℕ) → (m ≡ n → ⊥) → Reaches old at path m → Reaches new at path m

-- all paths stay
abbrev pub KeepsPaths : Store → Store → Type 0
KeepsPaths old new =
    (at : ℕ) (path : List Edge) (m : ℕ) → Reaches old at path m → Reaches new at path m

-- no number and no branch is there
abbrev pub IsEmptyAt : Store → ℕ → Type 0
IsEmptyAt nodes at =
    ((n : ℕ) → Holds nodes at n → ⊥)
    × ((edge : Edge) (k : ℕ) → child nodes at edge ≡ Some k → ⊥)

-- the node to which a path leads from the root, however many branches and numbers are taken away
abbrev pub Ends : Store → List Edge → Option ℕ → Type 0
Ends nodes path end =
    (fewer : Store) (n : ℕ) → Grows fewer nodes → Reaches fewer 0 path n
    → MatchOption end ⊥ (λ k. Holds fewer k n)

-- the same from any node: a longer path leads on from there
abbrev pub EndsFrom : Store → ℕ → List Edge → Option ℕ → Type 0
EndsFrom nodes at path end =
    (fewer : Store) (rest : List Edge) (n : ℕ) → Grows fewer nodes
    → Reaches fewer at (path ++ rest) n → MatchOption end ⊥ (λ k. Reaches fewer k rest n)
