-- What is sought in an index.
use Rattle.std.specs.Prelude.{ℕ, ◌≡◌, ◌⊎◌, Bool, true, false, ◌==◌, ◌&&◌, List, [], ◌∷◌}
use Rattle.std.specs.List.{list_any}
use Rattle.fol_core.specs.Tree.{Tree}
use Rattle.discrim_tree.specs.Entries.{Indexed}
use Rattle.discrim_tree.specs.Nodes.{Store, Reaches}
use Rattle.discrim_tree.specs.Paths.{path_of}
use Rattle.discrim_tree.specs.Terms.{has_instance, can_unify}
use Rattle.discrim_tree.specs.declared.edge.Edge.{Edge}
use Rattle.discrim_tree.specs.declared.entry.IndexEntry.{IndexEntry}
use Rattle.discrim_tree.specs.declared.sought.Sought.{Sought}
use Rattle.discrim_tree.specs.declared.sought.Sought.TheVariants.{Generalizations, Instances, Unifiable}

-- whether variables of the entries stand for other terms
abbrev pub fits_below : Sought → Bool
fits_below Generalizations = true
fits_below Instances = false
fits_below Unifiable = true

-- whether variables of the term stand for other terms
abbrev pub fits_above : Sought → Bool
fits_above Generalizations = false
fits_above Instances = true
fits_above Unifiable = true

-- whether an entry's term is sought with a term
abbrev pub passes : Sought → Tree → Tree → Bool
passes Generalizations t s = has_instance s t
passes Instances t s = has_instance t s
passes Unifiable t s = can_unify s t

-- each entry's number stands at the end of its path
abbrev pub AreReached : Store → List IndexEntry → Type 0
AreReached nodes [] = Unit {0}
AreReached nodes (e ∷ es) =
    Reaches nodes 0 (path_of e.tree) e.number × AreReached nodes es

-- a path and a number are those of an entry
abbrev pub IsEntry : List Edge → ℕ → List IndexEntry → Type 0
IsEntry path n [] = ⊥
IsEntry path n (e ∷ es) =
    ((path ≡ path_of e.tree) × (n ≡ e.number)) ⊎ IsEntry path n es

-- no path leads to a number but those of the entries
abbrev pub AreOnly : Store → List IndexEntry → Type 0
AreOnly nodes es = (path : List Edge) (n : ℕ) → Reaches nodes 0 path n → IsEntry path n es

-- whether a number is that of an entry that passes a test
abbrev pub is_sought : (Tree → Bool) → List Indexed → ℕ → Bool
is_sought test es n = list_any (λ e. (e.number == n) && test e.tree) es
