-- How large the arguments are with terms put in, one after the other.
use Rattle.std.proofs.Common.{◌≡◌, ℕ, ◌+◌, ◌<◌, ◌≤◌, List, length, get_or, drop, ap, arith}
use Rattle.std.proofs.lemmas.List.{drop_all}
use Rattle.clause_limits.proofs.Measures.{next_item}
use Rattle.fol_core.specs.Sizes.{size_of, sizes_of}
use Rattle.fol_core.specs.Substitutions.{Substitution, substitute, substitute_all}
use Rattle.fol_core.specs.TermView.{tree_of, tree_list}
use Rattle.fol_core.specs.Tree.{Tree, var, elem, app, trees_of}
use Rattle.fol_core.specs.declared.term.Term.{Term}

abbrev pub sizes_from : Substitution → List Term → ℕ → ℕ
sizes_from s ts i = sizes_of (substitute_all s (trees_of (tree_list (drop i ts))))

pub sizes_next : (s : Substitution) (ts : List Term) (i : ℕ) (t : Term) → i < length ts → t ≡ get_or ts i t → sizes_from s ts i ≡ size_of (substitute s (tree_of t)) + sizes_from s ts (i + 1)
sizes_next s ts i t h is = ap (λ us. sizes_of (substitute_all s (trees_of (tree_list us)))) (next_item ts i t h is)

pub sizes_end : (s : Substitution) (ts : List Term) (i : ℕ) → length ts ≤ i → sizes_from s ts i ≡ 0
sizes_end s ts i h = ap (λ us. sizes_of (substitute_all s (trees_of (tree_list us)))) (drop_all i ts h)

-- no term is without symbols and variables
pub none_left : (t : Tree) (room : ℕ) → room ≡ 0 → room < size_of t
none_left (var x) room e = omega (arith, e)
none_left (elem k) room e = omega (arith, e)
none_left (app f ts) room e = omega (arith, e)
