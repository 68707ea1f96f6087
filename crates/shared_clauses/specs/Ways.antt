-- Terms of a bank along a path.
use Rattle.std.specs.Prelude.{ℕ, ◌+◌, ◌<◌, ◌≤◌, ◌≡◌, List, length, map, take, Some}
use Rattle.std.specs.List.{slice_index_or}
use Rattle.fol_core.specs.Tree.{Tree, app, trees_of}
use Rattle.substitutions.specs.Paths.{part_at, subterm_at}
use Rattle.term_bank.specs.Bank.{tree_at}
use Rattle.term_bank.specs.Cells.{AreNumbersBelow, numbers}
use Rattle.term_bank.specs.declared.id.TermId.{TermId}

-- an argument
pub record IsPart (bank : List Tree) (n number k : ℕ) : Type 0 where
  pub within : k < length bank
  pub tree : part_at (tree_at bank n) number ≡ Some (tree_at bank k)

abbrev pub id_at : List TermId → ℕ → ℕ
id_at way i = (slice_index_or way i record { 0 = 0 }).0

abbrev pub first_tree : List Tree → List TermId → Tree
first_tree bank way = tree_at bank (id_at way 0)

-- a term, its part by the first number of a path, and so on to the path's end
pub record IsWay (bank : List Tree) (t : Tree) (path : List ℕ) (way : List TermId) : Type 0 where
  pub as_many : length way ≡ length path + 1
  pub within : (i : ℕ) → i ≤ length path → id_at way i < length bank
  pub trees : (i : ℕ) → i ≤ length path
      → subterm_at t (take i path) ≡ Some (tree_at bank (id_at way i))

-- a term by its symbol and arguments
pub record IsChanged (bank : List Tree) (t : Tree) (f : ℕ) (ks : List TermId) : Type 0 where
  pub tree : app f (trees_of (map (λ k. tree_at bank k.0) ks)) ≡ t
  pub within : AreNumbersBelow (length bank) (numbers ks)
