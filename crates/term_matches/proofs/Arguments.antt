-- Arguments of terms.
use Rattle.std.proofs.Common.{◌≡◌, ℕ, zero, suc, ◌<◌, ◌≤◌, List, [], ◌∷◌, length, get_or, ap, arith}
use Rattle.fol_core.specs.TermView.{tree_of, tree_list}
use Rattle.fol_core.specs.Tree.{trees_of, nodes, nodes_of}
use Rattle.fol_core.specs.declared.term.Term.{Term}

-- an argument is no larger than all of them
pub argument_nodes : (ts : List Term) (i : ℕ) (t : Term) → i < length ts → t ≡ get_or ts i t → nodes (tree_of t) ≤ nodes_of (trees_of (tree_list ts))
argument_nodes [] i t h is = absurd (omega arith)
argument_nodes (s ∷ ts) zero t h is = let same : nodes (tree_of t) ≡ nodes (tree_of s) = ap (λ u. nodes (tree_of u)) is in omega (arith, same)
argument_nodes (s ∷ ts) (suc i) t h is = let rest = argument_nodes ts i t (omega arith) is in omega (arith, rest)
