-- Cells with an index and a score each, of which some are free.
use Rattle.std.specs.Prelude.{ℕ, ◌≡◌, ◌<◌, ◌≤◌, ◌⊎◌, ◌+◌, Bool, true, false, if◌then◌else◌, List, length, Option, None, Some, refl}
use Rattle.std.specs.Coded.{Coded, code_by, coded×, coded_ℕ, coded_bool, coded_list}
use Rattle.std.specs.List.{slice_index_or}
use Rattle.cell_ranks.specs.Layouts.{place_among}
use Rattle.cell_ranks.specs.Tournaments.{is_before, node_at}

-- by the cell's number; a cell that has no score has 0
pub record Ranked : Type 0 where
  pub indices : List ℕ
  pub free : List Bool
  pub scores : List ℕ

abbrev pub ranked : List ℕ → List Bool → List ℕ → Ranked
ranked indices free scores = record { indices = indices; free = free; scores = scores }

abbrev pub coded_ranked : Coded Ranked
coded_ranked =
    code_by (List ℕ × (List Bool × List ℕ))
    (coded× (coded_list coded_ℕ) (coded× (coded_list coded_bool) (coded_list coded_ℕ)))
    (λ r. (r.indices, (r.free, r.scores))) (λ p. ranked p.0 p.1.0 p.1.1) (λ _. refl)

abbrev pub IsFree : Ranked → ℕ → Type 0
IsFree r k = slice_index_or r.free k false ≡ true

abbrev pub rank_index : Ranked → ℕ → ℕ
rank_index r k = slice_index_or r.indices k 0

-- a free cell of which the index is at most this, or the least of free cells
abbrev pub IsEligible : Ranked → ℕ → ℕ → Type 0
IsEligible r to k =
    IsFree r k
    × ((rank_index r k ≤ to) ⊎ ((j : ℕ) → IsFree r j → rank_index r k ≤ rank_index r j))

-- the one of these that is ranked before all
abbrev pub IsForemost : Ranked → ℕ → ℕ → Type 0
IsForemost r to k =
    IsEligible r to k × ((j : ℕ) → IsEligible r to j → is_before r.scores k j ≡ true)

-- at the places behind the first nodes the free cells stand, each at its own
pub record AreAtPlaces (indices : List ℕ) (free : List Bool) (nodes : List (Option ℕ)) : Type 0 where
  pub each : (k : ℕ) → k < length indices
      → node_at nodes (length indices + place_among indices k)
      ≡ (if slice_index_or free k false then Some k else None)
  pub only : (p k : ℕ) → p < length indices → node_at nodes (length indices + p) ≡ Some k
      → (k < length indices) × (place_among indices k ≡ p)
