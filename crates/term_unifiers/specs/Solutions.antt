-- What is found, as bindings.
use Rattle.std.specs.Prelude.{ℕ, ◌<◌, ◌≡◌, List, length, map}
use Rattle.fol_core.specs.Tree.{var}
use Rattle.substitutions.specs.Bindings.{Binding, by_bindings}
use Rattle.term_unifiers.specs.Arenas.{IsArena, shapes_of}
use Rattle.term_unifiers.specs.Classes.{Classes, AreClasses, In, OrdersAll, class_terms, classes_of, node_terms}
use Rattle.term_unifiers.specs.Measures.{AreMeasured}
use Rattle.term_unifiers.specs.Merging.{merging_of}
use Rattle.term_unifiers.specs.Named.{named_nodes}
use Rattle.term_unifiers.specs.declared.found.Found.{Found}

-- the classes of an arena's nodes
abbrev pub classes_in : Found → Classes
classes_in f = classes_of (shapes_of f.arena) (merging_of f.work)

-- each variable that has a node, with its term
abbrev pub bindings_of : Found → List Binding
bindings_of f =
    map (λ e. (e.0, node_terms (classes_in f) f.order.items e.1)) (named_nodes f.arena.variables)

pub record IsFound (f : Found) : Type 0 where
  pub arena : IsArena f.arena
  pub classes : AreClasses (classes_in f)
  pub ordered : OrdersAll (classes_in f) f.order.items
  pub measured : AreMeasured (class_terms (classes_in f) var f.order.items) f.order.items
      (length (shapes_of f.arena)) f.measures.items

-- the class whose term a variable has
pub record HasClass (f : Found) (x root : ℕ) : Type 0 where
  pub within : root < length (shapes_of f.arena)
  pub ordered : In root f.order.items
  pub bound : by_bindings (bindings_of f) x
      ≡ class_terms (classes_in f) var f.order.items root
