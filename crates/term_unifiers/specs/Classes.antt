-- Classes of nodes, when nothing is left to be merged, and their terms.
use Rattle.std.specs.Prelude.{ℕ, ◌<◌, ◌≡◌, ◌⊎◌, List, [], ◌∷◌, ◌++◌, length, map, Option, Some, None}
use Rattle.fol_core.specs.Substitutions.{Substitution, with_term}
use Rattle.fol_core.specs.Tree.{Tree, var}
use Rattle.term_unifiers.specs.Arenas.{node_of}
use Rattle.term_unifiers.specs.Merging.{nth, LeadDown, FitsLinks, HasSchemas, IsFlat, Merging, Respects}
use Rattle.term_unifiers.specs.Shapes.{Shape, variable, element, application, shape_at, seen, AreBelow, AreInPostorder}
use Rattle.term_unifiers.specs.declared.node.Arena.{Arena}

-- nodes, the least of each one's class, and by that a schema
pub record Classes : Type 0 where
  pub shapes : List Shape
  pub links : List ℕ
  pub schemas : List ℕ

-- the classes when nothing is left to be merged
abbrev pub classes_of : List Shape → Merging → Classes
classes_of shapes m = record { shapes = shapes; links = m.links; schemas = m.schemas }

abbrev pub schema_of : Classes → ℕ → Shape
schema_of c r = shape_at c.shapes (nth c.schemas r)

abbrev pub arguments_of : Shape → List ℕ
arguments_of (variable x) = []
arguments_of (element k) = []
arguments_of (application f ks) = ks

-- the classes of a schema's arguments
abbrev pub children : Classes → ℕ → List ℕ
children c r = map (nth c.links) (arguments_of (schema_of c r))

pub record AreClasses (c : Classes) : Type 0 where
  pub postorder : AreInPostorder c.shapes
  pub linked : length c.links ≡ length c.shapes
  pub schemed : length c.schemas ≡ length c.shapes
  pub down : LeadDown c.links
  pub flat : IsFlat c.links
  pub inside : AreBelow (length c.shapes) c.schemas
  pub schemas : (label : Substitution) → FitsLinks label c.links
      → HasSchemas label c.shapes c.schemas c.links

abbrev pub In : ℕ → List ℕ → Type 0
In x [] = ⊥
In x (y ∷ ys) = (x ≡ y) ⊎ In x ys

abbrev pub AllIn : List ℕ → List ℕ → Type 0
AllIn [] ys = Unit {0}
AllIn (x ∷ xs) ys = In x ys × AllIn xs ys

-- each class stands behind those of its arguments, and none stands twice
abbrev pub IsOrder : Classes → List ℕ → List ℕ → Type 0
IsOrder c before [] = Unit {0}
IsOrder c before (r ∷ rs) =
    AllIn (children c r) before × (¬ In r before) × IsOrder c (before ++ r ∷ []) rs

-- each node's class is there
abbrev pub IsWhole : Classes → List ℕ → Type 0
IsWhole c order = (n : ℕ) → n < length c.shapes → In (nth c.links n) order

-- an order of all classes
pub record OrdersAll (c : Classes) (roots : List ℕ) : Type 0 where
  pub order : IsOrder c [] roots
  pub whole : IsWhole c roots
  pub within : (r : ℕ) → In r roots → r < length c.shapes

-- nothing that respects the nodes makes the same of those of a class
abbrev pub IsCyclic : Classes → Type 0
IsCyclic c = (label : Substitution) → Respects label c.shapes → ¬ FitsLinks label c.links

-- the term of a class, by those of its arguments
abbrev pub class_term : Classes → Substitution → ℕ → Tree
class_term c terms r = seen (λ k. terms (nth c.links k)) (schema_of c r)

-- the terms of classes, one after the other
abbrev pub class_terms : Classes → Substitution → List ℕ → Substitution
class_terms c terms [] = terms
class_terms c terms (r ∷ rs) = class_terms c (with_term terms r (class_term c terms r)) rs

-- what each node becomes
abbrev pub node_terms : Classes → List ℕ → Substitution
node_terms c order = λ n. class_terms c var order (nth c.links n)

abbrev pub term_or_variable : ℕ → Substitution → Option ℕ → Tree
term_or_variable x terms None = var x
term_or_variable x terms (Some n) = terms n

-- what each variable becomes: one that has no node stays
abbrev pub found_terms : Arena → Classes → List ℕ → Substitution
found_terms a c order = λ x. term_or_variable x (node_terms c order) (node_of a x)
