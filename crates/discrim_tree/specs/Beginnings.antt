-- The beginnings of the entries' paths: a node for each.
use Rattle.std.specs.Prelude.{ℕ, Bool, true, false, ◌&&◌, List, [], ◌∷◌, ◌++◌, map}
use Rattle.std.specs.Ordering.{is_eq}
use Rattle.std.specs.Set.{distinct_count}
use Rattle.discrim_tree.specs.Entries.{Indexed}
use Rattle.discrim_tree.specs.Nodes.{edge_cmp}
use Rattle.discrim_tree.specs.Paths.{path_of}
use Rattle.discrim_tree.specs.declared.edge.Edge.{Edge}

-- whether two paths have the same steps
abbrev pub is_same_path : List Edge → List Edge → Bool
is_same_path [] [] = true
is_same_path [] (e ∷ q) = false
is_same_path (d ∷ p) [] = false
is_same_path (d ∷ p) (e ∷ q) = is_eq (edge_cmp d e) && is_same_path p q

-- the beginnings of a path that have a step
abbrev pub beginnings : List Edge → List (List Edge)
beginnings [] = []
beginnings (e ∷ path) = (e ∷ []) ∷ map (λ p. e ∷ p) (beginnings path)

-- those of the paths of all entries
abbrev pub all_beginnings : List Indexed → List (List Edge)
all_beginnings [] = []
all_beginnings (e ∷ es) = beginnings (path_of e.tree) ++ all_beginnings es

-- how many they are, where those that are the same count once
abbrev pub count_beginnings : List Indexed → ℕ
count_beginnings es = distinct_count is_same_path (all_beginnings es)
