-- Walks through a tree of paths: the nodes that were reached, in their order.
use Rattle.std.specs.Prelude.{ℕ, ◌≡◌, ◌+◌, ◌<◌, ◌≤◌, ◌⊎◌, Bool, IsTrue, List, ◌++◌, Some, length, slice_get}
use Rattle.fol_core.specs.Tree.{Tree, Trees}
use Rattle.discrim_tree.specs.Fitting.{Fits, FitAll}
use Rattle.discrim_tree.specs.Nodes.{Store, child, Holds, IsIn, Reaches}
use Rattle.discrim_tree.specs.Paths.{steps_of, path_of, paths_of}
use Rattle.discrim_tree.specs.Trees.{Leads}
use Rattle.discrim_tree.specs.declared.edge.Edge.{Edge}
use Rattle.discrim_tree.specs.declared.edge.Edge.TheVariants.{Any, Element, Symbol}
use Rattle.discrim_tree.specs.declared.skipping.Skipping.{Skipping}

-- how many terms follow a step
abbrev pub arity : Edge → ℕ
arity Any = 0
arity (Element k) = 0
arity (Symbol f n) = n

-- what stands in a list stays at its place
abbrev pub GoesOn : {X : Type 0} → List X → List X → Type 0
GoesOn {X} old new = (i : ℕ) (x : X) → slice_get old i ≡ Some x → slice_get new i ≡ Some x

-- a node is at this place or later
abbrev pub IsFrom : ℕ → List ℕ → ℕ → Type 0
IsFrom low walk at = (i : ℕ) × (low ≤ i) × (slice_get walk i ≡ Some at)

-- a node of the walk has a number
abbrev pub IsFound : Store → List ℕ → ℕ → Type 0
IsFound nodes walk n = (i : ℕ) × (at : ℕ) × (slice_get walk i ≡ Some at) × Holds nodes at n

-- from a node at this place or later a path leads to a number
abbrev pub Waits : Store → ℕ → List ℕ → List Edge → ℕ → Type 0
Waits nodes low walk path n = (at : ℕ) × IsFrom low walk at × Reaches nodes at path n

-- the nodes to which a step leads from those between two places are reached
abbrev pub Follows : Store → ℕ → ℕ → Edge → List ℕ → List ℕ → Type 0
Follows nodes low high edge old new =
    (i : ℕ) (at : ℕ) (k : ℕ) → low ≤ i → i < high → slice_get old i ≡ Some at
    → child nodes at edge ≡ Some k → IsFrom (length old) new k

-- behind so many terms from a node a path leads to a number
abbrev pub IsBehind : Store → ℕ → ℕ → List Edge → ℕ → Type 0
IsBehind nodes at count path n =
    (ts : List Tree) × (length ts ≡ count) × Reaches nodes at (steps_of ts ++ path) n

-- behind the terms that are to be skipped it does
abbrev pub IsAhead : Store → List Skipping → List Edge → ℕ → Type 0
IsAhead nodes waiting path n =
    (i : ℕ) × (s : Skipping) × (slice_get waiting i ≡ Some s)
    × IsBehind nodes s.node s.count path n

-- so many terms are to be skipped from a node
abbrev pub IsToSkip : List Skipping → ℕ → ℕ → Type 0
IsToSkip waiting at count =
    (i : ℕ) × (slice_get waiting i ≡ Some (record { node = at; count = count }))

-- from where a step leads from a node, the terms are to be skipped that are left of so many
abbrev pub Enters : Store → ℕ → ℕ → List Skipping → Type 0
Enters nodes at count waiting =
    (edge : Edge) (k : ℕ) → child nodes at edge ≡ Some k
    → (left : ℕ) × (left + 1 ≡ count + arity edge) × IsToSkip waiting k left

-- one term is to be skipped from each node between two places
abbrev pub StartsAt : ℕ → ℕ → List ℕ → List Skipping → Type 0
StartsAt low high walk waiting =
    (i : ℕ) (at : ℕ) → low ≤ i → i < high → slice_get walk i ≡ Some at → IsToSkip waiting at 1

-- a node behind the terms is reached, or they are still to be skipped
abbrev pub SkipsOne : Store → Skipping → ℕ → List ℕ → List Skipping → Type 0
SkipsOne nodes s low walk waiting =
    (path : List Edge) (n : ℕ) → IsBehind nodes s.node s.count path n
    → Waits nodes low walk path n ⊎ IsAhead nodes waiting path n

-- the nodes behind all terms that are to be skipped are reached
abbrev pub SkipsAll : Store → List Skipping → ℕ → List ℕ → Type 0
SkipsAll nodes waiting low walk =
    (path : List Edge) (n : ℕ) → IsAhead nodes waiting path n → Waits nodes low walk path n

-- and behind one term from each node between two places
abbrev pub SkipsEach : Store → ℕ → ℕ → List ℕ → List ℕ → Type 0
SkipsEach nodes low high old new =
    (i : ℕ) (at : ℕ) → low ≤ i → i < high → slice_get old i ≡ Some at
    → (path : List Edge) (n : ℕ) → IsBehind nodes at 1 path n
    → Waits nodes (length old) new path n

-- the nodes behind a term that fits are reached, from those from a place on
abbrev pub Passes : Store → Bool → Bool → Tree → ℕ → List ℕ → ℕ → List ℕ → Type 0
Passes nodes below above t low old next new =
    (s : Tree) (path : List Edge) (n : ℕ) → Fits below above s t
    → Waits nodes low old (path_of s ++ path) n → Waits nodes next new path n

-- and behind as many as fit
abbrev pub PassesAll : Store → Bool → Bool → Trees → ℕ → List ℕ → ℕ → List ℕ → Type 0
PassesAll nodes below above ts low old next new =
    (ss : Trees) (path : List Edge) (n : ℕ) → FitAll below above ss ts
    → Waits nodes low old (paths_of ss ++ path) n → Waits nodes next new path n

-- each term that fits leads to a node of the walk, by its path
abbrev pub Covers : Store → Bool → Bool → Tree → List ℕ → Type 0
Covers nodes below above t walk =
    (s : Tree) (n : ℕ) → Fits below above s t → Reaches nodes 0 (path_of s) n
    → IsFound nodes walk n

-- ---- nothing else is reached

-- a node is between two places
abbrev pub IsBetween : ℕ → ℕ → List ℕ → ℕ → Type 0
IsBetween low high walk at =
    (i : ℕ) × (low ≤ i) × (i < high) × (slice_get walk i ≡ Some at)

-- a step leads to a node from one between two places
abbrev pub IsStepFrom : Store → ℕ → ℕ → Edge → List ℕ → ℕ → Type 0
IsStepFrom nodes low high edge walk k =
    (at : ℕ) × IsBetween low high walk at × (child nodes at edge ≡ Some k)

-- it leads to each node that came to a walk
abbrev pub Came : Store → ℕ → ℕ → Edge → List ℕ → List ℕ → Type 0
Came nodes low high edge old new =
    (k : ℕ) → IsFrom (length old) new k → IsStepFrom nodes low high edge old k

-- the same by the step of a variable, where variables fit other terms
abbrev pub CameByAny : Store → Bool → ℕ → ℕ → List ℕ → List ℕ → Type 0
CameByAny nodes below low high old new =
    (k : ℕ) → IsFrom (length old) new k → IsTrue below × IsStepFrom nodes low high Any old k

-- so many terms lead from a node to another
abbrev pub IsPast : Store → ℕ → ℕ → ℕ → Type 0
IsPast nodes at count to =
    (ts : List Tree) × (length ts ≡ count) × Leads nodes at (steps_of ts) to

-- the terms that are to be skipped lead to a node
abbrev pub IsBeyond : Store → List Skipping → ℕ → Type 0
IsBeyond nodes waiting to =
    (i : ℕ) × (s : Skipping) × (slice_get waiting i ≡ Some s) × IsPast nodes s.node s.count to

-- they do so from a node, or did so before
abbrev pub IsSkipped : Store → ℕ → ℕ → List Skipping → List Skipping → Type 0
IsSkipped nodes at count old new =
    (to : ℕ) → IsBeyond nodes new to → IsBeyond nodes old to ⊎ IsPast nodes at count to

-- one term is to be skipped from nodes at this place or later alone
abbrev pub StartOnly : ℕ → List ℕ → List Skipping → Type 0
StartOnly low walk waiting =
    (i : ℕ) (s : Skipping) → slice_get waiting i ≡ Some s → IsFrom low walk s.node × (s.count ≡ 1)

-- each node that came is one behind a term from one at this place or later
abbrev pub SkippedEach : Store → ℕ → List ℕ → List ℕ → Type 0
SkippedEach nodes low old new =
    (to : ℕ) → IsFrom (length old) new to → (at : ℕ) × IsFrom low old at × IsPast nodes at 1 to

-- a path leads to a node from one at this place or later
abbrev pub LeadsFrom : Store → ℕ → List ℕ → List Edge → ℕ → Type 0
LeadsFrom nodes low walk path to = (at : ℕ) × IsFrom low walk at × Leads nodes at path to

-- each node from a place on is one behind a term that fits
abbrev pub Comes : Store → Bool → Bool → Tree → ℕ → List ℕ → ℕ → List ℕ → Type 0
Comes nodes below above t low old next new =
    (to : ℕ) → IsFrom next new to
    → (s : Tree) × Fits below above s t × LeadsFrom nodes low old (path_of s) to

-- and behind as many as fit
abbrev pub ComesAll : Store → Bool → Bool → Trees → ℕ → List ℕ → ℕ → List ℕ → Type 0
ComesAll nodes below above ts low old next new =
    (to : ℕ) → IsFrom next new to
    → (ss : Trees) × FitAll below above ss ts × LeadsFrom nodes low old (paths_of ss) to

-- each node of the walk is at the end of the path of a term that fits
abbrev pub AllFit : Store → Bool → Bool → Tree → List ℕ → Type 0
AllFit nodes below above t walk =
    (i : ℕ) (to : ℕ) → slice_get walk i ≡ Some to
    → (s : Tree) × Fits below above s t × Leads nodes 0 (path_of s) to

-- the numbers at the ends of the paths of the terms that fit, and no others
pub record AreFitting (nodes : Store) (below above : Bool) (t : Tree) (numbers : List ℕ) : Type 0
  where
    pub walk : List ℕ
    pub covers : Covers nodes below above t walk
    pub fit : AllFit nodes below above t walk
    pub all : (n : ℕ) → IsFound nodes walk n → IsIn n numbers
    pub only : (n : ℕ) → IsIn n numbers → IsFound nodes walk n
