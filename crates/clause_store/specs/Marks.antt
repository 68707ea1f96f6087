-- Lines marked by their places, and their parents.
use Rattle.std.specs.Prelude.{ℕ, zero, suc, ◌≡◌, ◌<◌, ◌≤◌, ◌++◌, Bool, false, IsTrue, List, [], length, slice_get, Option, None}
use Rattle.std.specs.List.{slice_index_or}
use Rattle.std.specs.Option.{option_map_or}
use Rattle.clause_store.specs.Ancestors.{line_parents, RestsOn}
use Rattle.clause_store.specs.Lines.{PlainLine, plain_tree}
use Rattle.clause_store.specs.Parents.{just_parents}
use Rattle.clause_store.specs.declared.lines.StoredLine.{StoredLine}

-- the line of a number, counted from 1
abbrev pub line_under_number : {L : Type 0} → List L → ℕ → Option L
line_under_number ls zero = None
line_under_number ls (suc k) = slice_get ls k

-- the parents of a line that is kept, by its number
abbrev pub stored_parents : List StoredLine → ℕ → List ℕ
stored_parents ls n = option_map_or (λ l. just_parents l.just) (line_under_number ls n) []

-- those of a line as it is written, and of the one of a number
abbrev pub plain_parents : PlainLine → List ℕ
plain_parents l = line_parents (plain_tree l)

abbrev pub parents_at : List PlainLine → ℕ → List ℕ
parents_at ls n = option_map_or plain_parents (line_under_number ls n) []

-- whether the line of a number is marked
abbrev pub has_mark : List Bool → ℕ → Bool
has_mark marks zero = false
has_mark marks (suc k) = slice_index_or marks k false

-- the number is that of one of so many lines
abbrev pub IsNumberOf : ℕ → ℕ → Type 0
IsNumberOf count n = (0 < n) × (n ≤ count)

-- of so many lines those are marked that one rests on
pub record MarkAncestors (count : ℕ) (parents : ℕ → List ℕ) (n : ℕ) (marks : List Bool) :
    Type 0 where
  pub each : length marks ≡ count
  pub rests : (m : ℕ) → IsTrue (has_mark marks m) → RestsOn parents n m
  pub all : (m : ℕ) → IsNumberOf count m → RestsOn parents n m → IsTrue (has_mark marks m)

-- A line is looked at: it is none or is marked, and nothing changes; or it is marked now, and its
-- parents wait.
pub data VisitsLine (count : ℕ) (parents : ℕ → List ℕ) (m : ℕ) (marks : List Bool)
    (waiting : List ℕ) (others : List Bool) (more : List ℕ) : Type 0 where
  passed_over : (IsNumberOf count m → IsTrue (has_mark marks m)) → others ≡ marks →
      more ≡ waiting → VisitsLine count parents m marks waiting others more
  marked_now : IsNumberOf count m → has_mark marks m ≡ false → length others ≡ length marks →
      IsTrue (has_mark others m) →
      ((k : ℕ) → (k ≡ m → ⊥) → has_mark others k ≡ has_mark marks k) →
      more ≡ waiting ++ parents m → VisitsLine count parents m marks waiting others more
