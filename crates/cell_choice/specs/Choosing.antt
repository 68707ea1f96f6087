-- Which cell is chosen.
use Rattle.std.specs.Prelude.{ℕ, ◌≡◌, ◌<◌, ◌≤◌, ◌⊎◌, ◌&&◌, max, min, nat_le, nat_lt, Bool, true, false, is_none, Option, None, Some}
use Rattle.std.specs.List.{slice_index_or}
use Rattle.mace_cells.specs.declared.way.Candidates.{Candidates}
use Rattle.mace_cells.specs.declared.way.Candidates.TheVariants.{All, LeastIndex, InUse}
use Rattle.mace_cells.specs.Trails.{Partial, IsBlank, value_in}

-- none of the blank cells has a lower index
abbrev pub IsOfLeastIndex : (ℕ → ℕ) → Partial → ℕ → Type 0
IsOfLeastIndex index t k = (j : ℕ) → IsBlank t j → index k ≤ index j

-- The candidates: all blank cells; those of least index; or those of which the index is at most
-- that of what is in use, and those of least index where there are none of these. Each index is
-- one more than the number that it stands for, and 0 where there is none.
abbrev pub IsCandidate : (ℕ → ℕ) → Partial → Candidates → ℕ → ℕ → Type 0
IsCandidate index t All used k = IsBlank t k
IsCandidate index t LeastIndex used k = IsBlank t k × IsOfLeastIndex index t k
IsCandidate index t InUse used k =
    IsBlank t k × ((index k ≤ used) ⊎ IsOfLeastIndex index t k)

-- up to which index free cells may be chosen
abbrev pub index_up_to : Candidates → ℕ → ℕ
index_up_to All used = 255
index_up_to LeastIndex used = 0
index_up_to InUse used = min used 255

-- and that index or a greater one, where this is the least of a blank cell
abbrev pub limit_by : Candidates → ℕ → ℕ → ℕ
limit_by c used least = max (index_up_to c used) least

-- the index by which a partial table ranks a cell
abbrev pub index_by : Partial → ℕ → ℕ
index_by t k = slice_index_or t.ranking.indices k 0

-- one cell is chosen rather than another by a score: it has the greater one, or comes first with the
-- same
abbrev pub IsPreferred : (ℕ → ℕ) → ℕ → ℕ → Type 0
IsPreferred score k j = (score j < score k) ⊎ ((score j ≡ score k) × (k ≤ j))

-- the candidate that is preferred to all
abbrev pub IsPicked : (ℕ → ℕ) → Partial → (ℕ → ℕ) → Candidates → ℕ → ℕ → Type 0
IsPicked index t score candidates used k =
    IsCandidate index t candidates used k
    × ((j : ℕ) → IsCandidate index t candidates used j → IsPreferred score k j)

-- a blank cell of an index up to a limit
abbrev pub is_up_to : Partial → ℕ → ℕ → Bool
is_up_to t limit k = is_none (value_in t.entries k) && nat_le (index_by t k) limit

-- whether a cell has a greater score than another one, if there is one
abbrev pub is_higher : (ℕ → ℕ) → ℕ → Option ℕ → Bool
is_higher score k None = true
is_higher score k (Some j) = nat_lt (score j) (score k)

-- the first of the greatest score of those of the first cells that pass a test; or none passes it
abbrev pub IsHighest : (ℕ → Bool) → (ℕ → ℕ) → ℕ → Option ℕ → Type 0
IsHighest test score many None = (j : ℕ) → j < many → test j ≡ false
IsHighest test score many (Some k) =
    (k < many) × (test k ≡ true)
    × ((j : ℕ) → j < many → test j ≡ true → IsPreferred score k j)

-- Up to which index candidates are, where some cell is one: none is beyond it, and each blank cell up
-- to it is one.
pub record IsLimit (index : ℕ → ℕ) (t : Partial) (candidates : Candidates) (used : ℕ) (limit : ℕ) :
    Type 0 where
  pub some : (k : ℕ) × IsCandidate index t candidates used k
  pub none_beyond : (k : ℕ) → IsCandidate index t candidates used k → index k ≤ limit
  pub each : (k : ℕ) → IsBlank t k → index k ≤ limit → IsCandidate index t candidates used k
