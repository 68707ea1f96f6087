-- Trees without dead nodes.
use Rattle.std.specs.Prelude.{ℕ, ◌≡◌, ◌⊎◌, List, [], ◌∷◌, Option, Some, None, option_map}
use Rattle.slab.specs.Slab.{get, Updates}
use Rattle.discrim_tree.specs.Nodes.{Store, child, Holds, IsEmptyAt, Reaches, KeepsPaths}
use Rattle.discrim_tree.specs.declared.edge.Edge.{Edge}
use Rattle.discrim_tree.specs.declared.nodes.Node.{Node}

-- the node above, as a node names it
abbrev pub link_of : Store → ℕ → Option ℕ
link_of nodes k = option_map (λ (node : Node). node.link) (get nodes k)

-- a path leads from a node to another
abbrev pub Leads : Store → ℕ → List Edge → ℕ → Type 0
Leads nodes at [] to = at ≡ to
Leads nodes at (edge ∷ path) to =
    (k : ℕ) × (child nodes at edge ≡ Some k) × Leads nodes k path to

-- each node is reached from the root by one path, and names the node above
pub record IsTree (nodes : Store) : Type 0 where
  pub rooted : link_of nodes 0 ≡ None
      → (nodes.vacant_key ≡ 0) × ((k : ℕ) → link_of nodes k ≡ None)
  pub reached : (k above : ℕ) → link_of nodes k ≡ Some above
      → (path : List Edge) × Leads nodes 0 path k
  pub linked : (at : ℕ) (edge : Edge) (k : ℕ) → child nodes at edge ≡ Some k
      → link_of nodes k ≡ Some at
  pub below : (at : ℕ) (edge : Edge) (k : ℕ) → child nodes at edge ≡ Some k → k ≡ 0 → ⊥
  pub once : (at : ℕ) (d e : Edge) (k : ℕ) → child nodes at d ≡ Some k
      → child nodes at e ≡ Some k → d ≡ e

-- a number stands at a node or below it
abbrev pub IsUsed : Store → ℕ → Type 0
IsUsed nodes k = (path : List Edge) × (n : ℕ) × Reaches nodes k path n

-- of each node but the root a number stands there or below it
abbrev pub AllUsed : Store → Type 0
AllUsed nodes = (k above : ℕ) → (k ≡ 0 → ⊥) → link_of nodes k ≡ Some above → IsUsed nodes k

-- but for nodes that lead to one
abbrev pub AllUsedBut : ℕ → Store → Type 0
AllUsedBut at nodes =
    (k above : ℕ) → (k ≡ 0 → ⊥) → link_of nodes k ≡ Some above
    → IsUsed nodes k ⊎ ((path : List Edge) × Leads nodes k path at)

-- the same numbers stand at the ends of the same paths, and a tree stays one
pub record IsAlike (old new : Store) : Type 0 where
  pub stay : KeepsPaths old new
  pub came : KeepsPaths new old
  pub tree : IsTree old → IsTree new

-- branches and numbers are those of before but for a branch of a node, and each node names the one
-- above as before
pub record IsBranched (at : ℕ) (edge : Edge) (old new : Store) : Type 0 where
  pub was : ℕ
  pub there : link_of old at ≡ Some was
  pub others : (a : ℕ) (e : Edge) → ((a ≡ at) × (e ≡ edge) → ⊥) → child new a e ≡ child old a e
  pub numbers : (a n : ℕ) → Holds old a n → Holds new a n
  pub back : (a n : ℕ) → Holds new a n → Holds old a n
  pub links : (k : ℕ) → link_of new k ≡ link_of old k

-- an empty node came, under a key that had none
pub record IsFresh (above k : ℕ) (old new : Store) : Type 0 where
  pub key : k ≡ old.vacant_key
  pub vacant : get old k ≡ None
  pub node : Node
  pub updates : Updates old new k (Some node)
  pub bare : node.contents.numbers ≡ []
  pub plain : node.contents.branches ≡ []
  pub link : node.link ≡ above

-- nothing changes but what room there is
pub record IsSame (old new : Store) : Type 0 where
  pub branches : (a : ℕ) (e : Edge) → child new a e ≡ child old a e
  pub numbers : (a n : ℕ) → Holds old a n → Holds new a n
  pub back : (a n : ℕ) → Holds new a n → Holds old a n
  pub links : (k : ℕ) → link_of new k ≡ link_of old k
  pub next : new.vacant_key ≡ old.vacant_key

-- a number or a branch is at a node
abbrev pub IsFull : Store → ℕ → Type 0
IsFull nodes k =
    ((n : ℕ) × Holds nodes k n) ⊎ ((edge : Edge) × (j : ℕ) × (child nodes k edge ≡ Some j))

-- the one has an empty node more than the other, to which a branch leads
pub record IsOneMore (at : ℕ) (edge : Edge) (k : ℕ) (less more : Store) : Type 0 where
  pub above : ℕ
  pub there : link_of less at ≡ Some above
  pub vacant : link_of less k ≡ None
  pub empty : IsEmptyAt more k
  pub hung : child more at edge ≡ Some k
  pub cut : child less at edge ≡ None
  pub others : (a : ℕ) (e : Edge) → ((a ≡ at) × (e ≡ edge) → ⊥) → child more a e ≡ child less a e
  pub numbers : (a n : ℕ) → Holds less a n → Holds more a n
  pub back : (a n : ℕ) → Holds more a n → Holds less a n
  pub links : (j : ℕ) → (j ≡ k → ⊥) → link_of more j ≡ link_of less j

-- the branches are those of before, and the numbers but for those of a node
pub record IsRenumbered (at : ℕ) (old new : Store) : Type 0 where
  pub was : ℕ
  pub there : link_of old at ≡ Some was
  pub branches : (a : ℕ) (e : Edge) → child new a e ≡ child old a e
  pub numbers : (a n : ℕ) → (a ≡ at → ⊥) → Holds old a n → Holds new a n
  pub back : (a n : ℕ) → (a ≡ at → ⊥) → Holds new a n → Holds old a n
  pub links : (k : ℕ) → link_of new k ≡ link_of old k

-- no path leads to a number but those that did, and one more to one
abbrev pub ComesOnly : List Edge → ℕ → Store → Store → Type 0
ComesOnly path n old new =
    (p : List Edge) (m : ℕ) → Reaches new 0 p m → Reaches old 0 p m ⊎ ((p ≡ path) × (m ≡ n))
