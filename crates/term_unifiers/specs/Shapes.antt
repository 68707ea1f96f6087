-- Nodes of terms: what stands at a node, by the numbers of its arguments, and its tree.
use Rattle.std.specs.Prelude.{ℕ, ◌<◌, List, [], ◌∷◌, ◌++◌, length, map}
use Rattle.std.specs.List.{slice_index_or}
use Rattle.fol_core.specs.Substitutions.{Substitution}
use Rattle.fol_core.specs.Tree.{Tree, var, elem, app, trees_of}

-- a variable, an element, or a symbol with the numbers of its arguments
pub data Shape : Type 0 where
  variable : ℕ → Shape
  element : ℕ → Shape
  application : ℕ → List ℕ → Shape

abbrev pub shape_at : List Shape → ℕ → Shape
shape_at shapes n = slice_index_or shapes n (variable 0)

-- the term of a node, where each of its arguments is labelled with a term
abbrev pub seen : Substitution → Shape → Tree
seen label (variable x) = var x
seen label (element k) = elem k
seen label (application f ks) = app f (trees_of (map label ks))

-- each of the numbers is below this one
abbrev pub AreBelow : ℕ → List ℕ → Type 0
AreBelow n [] = Unit {0}
AreBelow n (k ∷ ks) = (k < n) × AreBelow n ks

abbrev pub HasArgumentsBelow : ℕ → Shape → Type 0
HasArgumentsBelow n (variable x) = Unit {0}
HasArgumentsBelow n (element k) = Unit {0}
HasArgumentsBelow n (application f ks) = AreBelow n ks

-- arguments stand before their node
abbrev pub AreInPostorder : List Shape → Type 0
AreInPostorder shapes =
    (n : ℕ) → n < length shapes → HasArgumentsBelow n (shape_at shapes n)

abbrev pub label_of : List Tree → Substitution
label_of trees = λ n. slice_index_or trees n (var 0)

-- the trees so far, and those of nodes behind them
abbrev pub trees_built : List Tree → List Shape → List Tree
trees_built trees [] = trees
trees_built trees (s ∷ shapes) = trees_built (trees ++ seen (label_of trees) s ∷ []) shapes

-- each node's tree
abbrev pub tree_at : List Shape → Substitution
tree_at shapes = label_of (trees_built [] shapes)
