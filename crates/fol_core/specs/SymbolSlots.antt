-- How the code finds a symbol of a table: each belongs into a slot by its name and arity, and leads
-- to the one before it in its slot.
use Rattle.std.specs.Prelude.{ℕ, zero, suc, Bool, true, false, ◌+◌, ◌-◌, ◌%◌, ◌^◌, ◌<◌, ◌≤◌, ◌==◌, ◌≡◌, List, [], ◌∷◌, Some, length, take, slice_get, slice_index, bit_and}
use Rattle.std.specs.Hash.FoldHasher.{initial, write}
use Rattle.fol_core.specs.SymbolTable.{Symbol, FindsEach}

-- the slot of a name and arity, of so many
abbrev pub slot_of : ℕ → List ℕ → ℕ → ℕ
slot_of count name arity = bit_and (((write initial name).state + arity) % 2 ^ 64) (count - 1)

-- whether the symbol belongs into the slot
abbrev pub belongs : ℕ → ℕ → Symbol → Bool
belongs count slot s = slot_of count s.name s.arity == slot

-- one symbol more in front: numbers rise by one; where there was none it is 1 if this one belongs
abbrev pub with_one_in_front : Bool → ℕ → ℕ
with_one_in_front true zero = 1
with_one_in_front false zero = 0
with_one_in_front b (suc n) = suc (suc n)

-- one more than the number of the last symbol in a slot, 0 where it has none
abbrev pub last_in : ℕ → ℕ → List Symbol → ℕ
last_in count slot [] = 0
last_in count slot (s ∷ table) = with_one_in_front (belongs count slot s) (last_in count slot table)

-- each slot leads to its last symbol
abbrev pub AreHeads : List ℕ → List Symbol → Type 0
AreHeads heads table =
    (slot : ℕ) → slot < length heads → slice_index heads slot ≡ last_in (length heads) slot table

-- each symbol leads to the last before it in its slot
abbrev pub AreLinks : ℕ → List ℕ → List Symbol → Type 0
AreLinks count links table =
    (n : ℕ) (s : Symbol) → slice_get table n ≡ Some s
    → slice_index links n ≡ last_in count (slot_of count s.name s.arity) (take n table)

-- how the code keeps a table; no symbol stands twice
pub record IsTable (heads links : List ℕ) (table : List Symbol) : Type 0 where
  pub slots : AreHeads heads table
  pub chains : AreLinks (length heads) links table
  pub linked : length links ≡ length table
  pub room : length table ≤ length heads
  pub few : length table < 2 ^ 32
  pub once : FindsEach table
