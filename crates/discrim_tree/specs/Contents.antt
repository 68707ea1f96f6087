-- What a node has.
use Rattle.std.specs.Prelude.{ℕ, ◌≡◌, ◌<◌, ◌≤◌, List, [], ◌∷◌, Option, Some, length, slice_get}
use Rattle.std.specs.List.Sorted.{IsStrictlySortedBy}
use Rattle.std.specs.Map.{keys_of, lookup}
use Rattle.std.specs.Ordering.{is_eq}
use Rattle.std.specs.declared.cmp.Ordering.{Ordering}
use Rattle.std.specs.declared.cmp.Ordering.TheVariants.{Less}
use Rattle.discrim_tree.specs.contracts.edge.EdgeOrd.TheImpl as edge_ord
use Rattle.discrim_tree.specs.declared.contents.Branches.{Branches}
use Rattle.discrim_tree.specs.declared.contents.Branches.TheVariants.{One, Many}
use Rattle.discrim_tree.specs.declared.contents.Form.{Form}
use Rattle.discrim_tree.specs.declared.contents.Form.TheVariants.{Nothing, Number, ByAny, ByElement, BySymbol, Lists}
use Rattle.discrim_tree.specs.declared.edge.Edge.{Edge}
use Rattle.discrim_tree.specs.declared.edge.Edge.TheVariants.{Any, Element, Symbol}

abbrev pub edge_cmp : Edge → Edge → Ordering
edge_cmp = (edge_ord.ghosts).cmp

-- the numbers of the paths that end there, and the branches: steps, each with the node to which it
-- leads
pub record Contents : Type 0 where
  pub numbers : List ℕ
  pub branches : List (Edge × ℕ)

-- where a step leads: the node of the branch that has it
abbrev pub target : List (Edge × ℕ) → Edge → Option ℕ
target branches edge = lookup (λ e. is_eq (edge_cmp edge e)) branches

-- each step is below those behind it
abbrev pub StepsRise : List (Edge × ℕ) → Type 0
StepsRise branches = IsStrictlySortedBy edge_cmp (keys_of branches)

-- at a place stands the branch of a step
abbrev pub IsAt : List (Edge × ℕ) → Edge → ℕ → Type 0
IsAt branches edge at = (node : ℕ) × (slice_get branches at ≡ Some (edge, node))

-- a step's branch would come at a place: lesser steps stand before it, and greater ones from it on
pub record IsGapFor (branches : List (Edge × ℕ)) (edge : Edge) (at : ℕ) : Type 0 where
  pub within : at ≤ length branches
  pub lesser : (i : ℕ) (b : Edge × ℕ) → i < at → slice_get branches i ≡ Some b
      → edge_cmp b.0 edge ≡ Less
  pub greater : (i : ℕ) (b : Edge × ℕ) → at ≤ i → slice_get branches i ≡ Some b
      → edge_cmp edge b.0 ≡ Less

-- the numbers and the branches of a form
abbrev pub numbers_of : Form → List ℕ
numbers_of Nothing = []
numbers_of (Number n) = n ∷ []
numbers_of (ByAny node) = []
numbers_of (ByElement k node) = []
numbers_of (BySymbol count node symbol) = []
numbers_of (Lists lists) = lists.value.numbers.items

abbrev pub branches_of : Form → List (Edge × ℕ)
branches_of Nothing = []
branches_of (Number n) = []
branches_of (ByAny node) = (Any, node) ∷ []
branches_of (ByElement k node) = (Element k, node) ∷ []
branches_of (BySymbol count node symbol) = (Symbol symbol count, node) ∷ []
branches_of (Lists lists) = lists.value.branches.items

-- one branch, or those that are lent
abbrev pub listed : Branches → List (Edge × ℕ)
listed (One b) = b ∷ []
listed (Many branches) = branches.now
