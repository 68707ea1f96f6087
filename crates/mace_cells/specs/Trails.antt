-- A partial table, as the list of the steps that made it.
use Rattle.std.specs.Prelude.{ℕ, suc, ◌≡◌, ◌<◌, ◌+◌, ◌*◌, ◌^◌, ◌-◌, ◌/◌, ◌==◌, Bool, true, false, if◌then◌else◌, List, [], ◌∷◌, length, drop, map, Option, None, Some}
use Rattle.std.specs.List.{list_any, slice_index_or, slice_set}
use Rattle.cell_ranks.specs.Ranks.{Ranked, ranked, IsFree}
use Rattle.mace_cells.specs.declared.trail.TrailEntry.{TrailEntry}
use Rattle.mace_cells.specs.declared.way.CellMeasure.{CellMeasure}
use Rattle.mace_cells.specs.declared.way.CellMeasure.TheVariants.{First, MostOccurrences, MostAssigned, MostContradicted, MostCrossed}

-- how cells are ranked for the choice: by the index of each, and whether by how many values are
-- crossed off each
pub record Ranking : Type 0 where
  pub indices : List ℕ
  pub counts : Bool

-- how many cells there are, one more than the greatest value, how cells are ranked, the values that
-- cells have, and the values that were crossed off, each as the number cell * stride + value; the
-- latest first
pub record Partial : Type 0 where
  pub many : ℕ
  pub stride : ℕ
  pub ranking : Ranking
  pub entries : List TrailEntry
  pub crossings : List ℕ

abbrev pub partial : ℕ → ℕ → Ranking → List TrailEntry → List ℕ → Partial
partial many stride ranking entries crossings =
    record {
      many = many;
      stride = stride;
      ranking = ranking;
      entries = entries;
      crossings = crossings;
    }

-- the value that a cell has
abbrev pub value_in : List TrailEntry → ℕ → Option ℕ
value_in [] k = None
value_in (e ∷ es) k = if k == e.cell then Some e.value else value_in es k

-- whether a number is in a list
abbrev pub is_struck_off : ℕ → List ℕ → Bool
is_struck_off k ks = list_any (λ j. k == j) ks

-- two values of a cell below `end` aren't crossed off
abbrev pub HasTwoLeft : Partial → ℕ → ℕ → Type 0
HasTwoLeft t k end =
    (v u : ℕ)
    × ((v < u) × (u < end) × (is_struck_off (k * t.stride + v) t.crossings ≡ false)
    × (is_struck_off (k * t.stride + u) t.crossings ≡ false))

-- how many of some crossings are those of a cell's values
abbrev pub crossings_of : ℕ → ℕ → List ℕ → ℕ
crossings_of stride k [] = 0
crossings_of stride k (j ∷ js) =
    if j / stride == k then suc (crossings_of stride k js) else crossings_of stride k js

-- how many values are crossed off a cell
abbrev pub crossed_off : Partial → ℕ → ℕ
crossed_off t k = crossings_of t.stride k t.crossings

-- the first so many, which are the earliest
abbrev pub earliest : ℕ → List ℕ → List ℕ
earliest n ks = drop (length ks - n) ks

-- what a decision stood on: the steps before the latest decision
abbrev pub before_decision : List TrailEntry → List TrailEntry
before_decision [] = []
before_decision (e ∷ es) = if e.decided then es else before_decision es

-- how many values had been crossed off then
abbrev pub latest_mark : List TrailEntry → Option ℕ
latest_mark [] = None
latest_mark (e ∷ es) = if e.decided then Some e.mark else latest_mark es

abbrev pub cut_to : Option ℕ → List ℕ → List ℕ
cut_to None ks = ks
cut_to (Some mark) ks = earliest mark ks

-- the table before the latest decision
abbrev pub undone : Partial → Partial
undone p =
    partial p.many p.stride p.ranking (before_decision p.entries) (cut_to (latest_mark p.entries) p.crossings)

-- what the steps wrote into an array by cell, and into one by cell and value
abbrev pub cells_written : List TrailEntry → List (ℕ × Option ℕ)
cells_written es = map (λ e. (e.cell, Some e.value)) es

abbrev pub struck : List ℕ → List (ℕ × Bool)
struck ks = map (λ k. (k, true)) ks

-- the decisions, each a cell's number with its value
abbrev pub moves : List TrailEntry → List (ℕ × ℕ)
moves [] = []
moves (e ∷ es) = if e.decided then (e.cell, e.value) ∷ moves es else moves es

-- an array has for each cell how many of some crossings are its own
abbrev pub AreCounted : ℕ → List ℕ → List ℕ → Type 0
AreCounted stride ks counts =
    (k : ℕ) → k < length counts → slice_index_or counts k 0 ≡ crossings_of stride k ks

-- what is greatest in the first cell in rank: how many values are crossed off it, where that counts;
-- else all cells are alike
abbrev pub score : Partial → Bool → ℕ → ℕ
score t false k = 0
score t true k = crossed_off t k

-- a cell that has no value
abbrev pub IsBlank : Partial → ℕ → Type 0
IsBlank t k = (k < t.many) × (value_in t.entries k ≡ None)

-- the cells are ranked as the partial table says, those without a value being free
pub record IsRankedBy (t : Partial) (r : Ranked) : Type 0 where
  pub indices : r.indices ≡ t.ranking.indices
  pub bytes : (k : ℕ) → slice_index_or r.indices k 0 < 256
  pub blank : (k : ℕ) → IsFree r k → IsBlank t k
  pub free : (k : ℕ) → IsBlank t k → IsFree r k
  pub scores : (k : ℕ) → k < t.many
      → slice_index_or r.scores k 0 ≡ score t t.ranking.counts k

abbrev pub is_missing : Option ℕ → Bool
is_missing None = true
is_missing (Some v) = false

-- flags tell which cells have no value
pub record AreFlagged (values : List (Option ℕ)) (free : List Bool) : Type 0 where
  pub many : length free ≡ length values
  pub each : (k : ℕ) → k < length values
      → slice_index_or free k false ≡ is_missing (slice_index_or values k None)

-- where it counts how many values are crossed off each cell, the scores tell this
abbrev pub AreScored : Bool → ℕ → List ℕ → ℕ → List ℕ → Type 0
AreScored false stride ks many scores = scores ≡ []
AreScored true stride ks many scores = (length scores ≡ many) × AreCounted stride ks scores

-- one more value is crossed off a cell, or one less
abbrev pub counted_up : Bool → Ranked → ℕ → Ranked
counted_up false r k = r
counted_up true r k =
    ranked r.indices r.free (slice_set r.scores k (slice_index_or r.scores k 0 + 1))

abbrev pub lowered : Bool → Ranked → ℕ → Ranked
lowered false r k = r
lowered true r k =
    ranked r.indices r.free (slice_set r.scores k (slice_index_or r.scores k 0 - 1))

-- a cell has a score that can be raised, or lowered, where it counts
abbrev pub CanRaise : Bool → Ranked → ℕ → Type 0
CanRaise false r k = Unit {0}
CanRaise true r k = (k < length r.scores) × (slice_index_or r.scores k 0 + 1 < 2 ^ 64)

abbrev pub CanLower : Bool → Ranked → ℕ → Type 0
CanLower false r k = Unit {0}
CanLower true r k = (k < length r.scores) × (0 < slice_index_or r.scores k 0)

-- whether a measure counts how many values are crossed off a cell
abbrev pub counts_crossed : CellMeasure → Bool
counts_crossed First = false
counts_crossed MostOccurrences = false
counts_crossed MostAssigned = false
counts_crossed MostContradicted = false
counts_crossed MostCrossed = true
