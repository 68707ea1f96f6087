-- Arenas of nodes.
use Rattle.std.specs.Prelude.{ℕ, ◌+◌, ◌*◌, ◌<◌, ◌≤◌, ◌≡◌, List, [], ◌∷◌, ◌++◌, length, map, take, drop, Option, Some}
use Rattle.fol_core.specs.Tree.{Tree}
use Rattle.term_unifiers.specs.Merging.{arities}
use Rattle.term_unifiers.specs.Named.{node_named}
use Rattle.term_unifiers.specs.Shapes.{Shape, variable, element, application, shape_at, AreBelow, AreInPostorder, tree_at}
use Rattle.term_unifiers.specs.declared.node.Arena.{Arena}
use Rattle.term_unifiers.specs.declared.node.Node.{Node}
use Rattle.term_unifiers.specs.declared.node.Node.TheVariants as node
use Rattle.term_unifiers.specs.declared.node.View.{View}
use Rattle.term_unifiers.specs.declared.node.View.TheVariants as view

-- a number of 128 bits by its upper ones and its lower ones
unfoldable pub whole : ℕ → ℕ → ℕ
whole upper lower = upper * 18446744073709551616 + lower

abbrev pub shape_of : List ℕ → Node → Shape
shape_of arguments (node.Variable upper lower) = variable (whole upper lower)
shape_of arguments (node.Element k) = element k
shape_of arguments (node.Application f first count) =
    application f (take count (drop first arguments))

abbrev pub shapes_of : Arena → List Shape
shapes_of a = map (shape_of a.arguments.items) a.nodes.items

abbrev pub view_shape : View → Shape
view_shape (view.Variable x) = variable x
view_shape (view.Element k) = element k
view_shape (view.Application f ks) = application f ks.now

-- the arguments are there
abbrev pub IsPlaced : ℕ → Node → Type 0
IsPlaced n (node.Variable upper lower) = Unit {0}
IsPlaced n (node.Element k) = Unit {0}
IsPlaced n (node.Application f first count) = first + count ≤ n

abbrev pub ArePlaced : ℕ → List Node → Type 0
ArePlaced n [] = Unit {0}
ArePlaced n (x ∷ xs) = IsPlaced n x × ArePlaced n xs

-- the node of a variable
abbrev pub node_of : Arena → ℕ → Option ℕ
node_of a x = node_named a.variables x

pub record IsArena (a : Arena) : Type 0 where
  pub placed : ArePlaced (length a.arguments.items) a.nodes.items
  pub postorder : AreInPostorder (shapes_of a)
  pub few : arities (shapes_of a) ≤ length a.arguments.items
  pub named : (x n : ℕ) → node_of a x ≡ Some n
      → (n < length (shapes_of a)) × (shape_at (shapes_of a) n ≡ variable x)
  pub once : (x n : ℕ) → n < length (shapes_of a) → shape_at (shapes_of a) n ≡ variable x
      → node_of a x ≡ Some n

-- each node means what it did; there may be more
abbrev pub Grows : List Shape → List Shape → Type 0
Grows old new = (others : List Shape) × (new ≡ old ++ others)

-- a node with this shape
pub record IsNode (old new : Arena) (s : Shape) (n : ℕ) : Type 0 where
  pub arena : IsArena new
  pub grows : Grows (shapes_of old) (shapes_of new)
  pub within : n < length (shapes_of new)
  pub shape : shape_at (shapes_of new) n ≡ s

-- the terms have nodes, whose numbers stand behind the others
pub record AreNodes (old new : Arena) (front all : List ℕ) (ts : List Tree) : Type 0 where
  pub arena : IsArena new
  pub grows : Grows (shapes_of old) (shapes_of new)
  pub added : List ℕ
  pub numbers : all ≡ front ++ added
  pub within : AreBelow (length (shapes_of new)) added
  pub trees : map (tree_at (shapes_of new)) added ≡ ts

-- the numbers from a place on have become those of a node's arguments, and the node's stands there
pub record IsApplied (old new : Arena) (f first : ℕ) (before after : List ℕ) : Type 0 where
  pub number : ℕ
  pub node : IsNode old new (application f (drop first before)) number
  pub numbers : after ≡ take first before ++ number ∷ []
