-- Winners of pairs, winners of these, and so on.
use Rattle.std.specs.Prelude.{ℕ, zero, suc, ◌≡◌, ◌<◌, ◌≤◌, ◌+◌, ◌*◌, ◌==◌, ◌||◌, ◌&&◌, nat_lt, nat_le, Bool, if◌then◌else◌, List, Option, None, Some}
use Rattle.std.specs.List.{slice_index_or}

-- whether one is ranked before another: it has the greater score, or the same and the lower number
abbrev pub is_before : List ℕ → ℕ → ℕ → Bool
is_before scores k j =
    nat_lt (slice_index_or scores j 0) (slice_index_or scores k 0)
    || (slice_index_or scores j 0 == slice_index_or scores k 0 && nat_le k j)

-- the one of two, either of which may be missing, that is ranked before the other
abbrev pub winner : List ℕ → Option ℕ → Option ℕ → Option ℕ
winner scores None b = b
winner scores (Some k) None = Some k
winner scores (Some k) (Some j) = if is_before scores k j then Some k else Some j

abbrev pub node_at : List (Option ℕ) → ℕ → Option ℕ
node_at nodes i = slice_index_or nodes i None

-- the winner of so many nodes from one on
abbrev pub winner_from : List ℕ → List (Option ℕ) → ℕ → ℕ → Option ℕ
winner_from scores nodes i zero = None
winner_from scores nodes i (suc n) =
    winner scores (node_at nodes i) (winner_from scores nodes (suc i) n)

-- the pair of node i are nodes 2 i and 2 i + 1
abbrev pub IsWon : List ℕ → List (Option ℕ) → ℕ → Type 0
IsWon scores nodes i =
    node_at nodes i ≡ winner scores (node_at nodes (2 * i)) (node_at nodes (2 * i + 1))

-- each node before the places is won by one of its pair
abbrev pub IsTournament : List ℕ → List (Option ℕ) → ℕ → Type 0
IsTournament scores nodes places = (i : ℕ) → 1 ≤ i → i < places → IsWon scores nodes i

-- at one place this is put, and the others are as they were
abbrev pub IsInserted : List (Option ℕ) → List (Option ℕ) → ℕ → ℕ → Option ℕ → Type 0
IsInserted old new places place cell =
    (node_at new (places + place) ≡ cell)
    × ((i : ℕ) → places ≤ i → (i ≡ places + place → ⊥) → node_at new i ≡ node_at old i)
