-- The nodes of variables.
use Rattle.std.specs.BTreeMap.{is_at}
use Rattle.std.specs.Map.{lookup}
use Rattle.std.specs.Ordering.{nat_cmp}
use Rattle.std.specs.Prelude.{ℕ, List, ◌++◌, Option}
use Rattle.term_unifiers.specs.declared.naming.VariableNodes.{VariableNodes}

-- all variables with their nodes
abbrev pub named_nodes : VariableNodes → List (ℕ × ℕ)
named_nodes v = v.few.items ++ v.others.entries

-- the node of a variable
abbrev pub node_named : VariableNodes → ℕ → Option ℕ
node_named v x = lookup (is_at (nat_cmp x)) (named_nodes v)
