-- How two terms compare.
use Rattle.std.specs.Prelude.{ℕ, Bool, false, ◌≡◌, ◌≤◌, ◌<◌, if◌then◌else◌, List, length, map, take}
use Rattle.std.specs.List.{list_all, slice_index_or}
use Rattle.fol_core.specs.Tree.{Tree, var, app, trees_of}
use Rattle.term_bank.specs.Bank.{tree_at}
use Rattle.term_bank.specs.declared.id.TermId.{TermId}
use Rattle.term_order.specs.declared.compared.Compared.{Compared}
use Rattle.term_order.specs.declared.compared.Compared.TheVariants.{Greater, Less, Same, NotComparable}
use Rattle.unifiers.specs.Matching.{same_tree}

-- by an order
abbrev pub compared_by : (Tree → Tree → Bool) → Tree → Tree → Compared
compared_by greater s t =
    if same_tree s t then Same
    else (if greater s t then Greater else (if greater t s then Less else NotComparable))

-- terms by their numbers
abbrev pub trees_under : List Tree → List TermId → List Tree
trees_under bank ids = map (λ id. tree_at bank id.0) ids

-- a term is greater than each of some others
abbrev pub is_greater_than_each : (Tree → Tree → Bool) → Tree → List Tree → Bool
is_greater_than_each greater s ts = list_all (λ t. greater s t) ts

-- where both lists have a term at a place, these differ
abbrev pub DifferAt : List Tree → List Tree → ℕ → Type 0
DifferAt ss ts n =
    n < length ss → n < length ts →
    same_tree (slice_index_or ss n (var 0)) (slice_index_or ts n (var 0)) ≡ false

-- the lists begin with n terms that are the same in both, and the next ones differ
pub record AreCommon (bank : List Tree) (ss ts : List TermId) (n : ℕ) : Type 0 where
  pub within_first : n ≤ length ss
  pub within_second : n ≤ length ts
  pub same : take n (trees_under bank ss) ≡ take n (trees_under bank ts)
  pub other : DifferAt (trees_under bank ss) (trees_under bank ts) n

-- two terms with one head, and these arguments
pub record HaveOneHead (bank : List Tree) (s : ℕ) (ss : List TermId) (t : ℕ) (ts : List TermId)
    : Type 0 where
  pub head : ℕ
  pub first : tree_at bank s ≡ app head (trees_of (trees_under bank ss))
  pub second : tree_at bank t ≡ app head (trees_of (trees_under bank ts))
