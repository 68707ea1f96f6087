-- The variables of a formula, from the code's names of the free ones and of the others.
use Rattle.std.specs.Prelude.{◌≡◌, ℕ, suc, Bool, true, false, List, [], ◌∷◌, length, Option}
use Rattle.std.specs.Map.{lookup, keys_of}
use Rattle.std.specs.Str.{bytes_eq}
use Rattle.smallvec.specs.SmallVec.{SmallVec}
use Rattle.ladr_formulas.specs.Formulas.{free_number}
use Rattle.ladr_formulas.specs.Formulas as formulas

-- a name in the table
abbrev pub ShortName : Type 0
ShortName = SmallVec ℕ

-- variables of which some are free, with the names of these and those of the others, both in order
abbrev pub woven : List Bool → List ShortName → List (List ℕ) → List formulas.Variable
woven [] fs bs = []
woven (true ∷ ks) [] bs = woven ks [] bs
woven (true ∷ ks) (f ∷ fs) bs = record { name = f.items; free = true } ∷ woven ks fs bs
woven (false ∷ ks) fs [] = woven ks fs []
woven (false ∷ ks) fs (b ∷ bs) = record { name = b; free = false } ∷ woven ks fs bs

-- how many are free, and how many aren't
abbrev pub free_count : List Bool → ℕ
free_count [] = 0
free_count (true ∷ ks) = suc (free_count ks)
free_count (false ∷ ks) = free_count ks

abbrev pub bound_count : List Bool → ℕ
bound_count [] = 0
bound_count (true ∷ ks) = bound_count ks
bound_count (false ∷ ks) = suc (bound_count ks)

-- the number of a name in the table
abbrev pub number_in : List (ShortName × ℕ) → List ℕ → Option ℕ
number_in entries name = lookup (λ v. bytes_eq name v.items) entries

-- the table has the numbers of the free variables
abbrev pub HasFree : List (ShortName × ℕ) → List formulas.Variable → Type 0
HasFree entries variables = (name : List ℕ) → number_in entries name ≡ free_number 0 variables name

-- each variable has a name, and the table has the numbers of the free ones
pub record AreNumbered
    (are_free : List Bool) (entries : List (ShortName × ℕ)) (bound : List (List ℕ)) : Type 0 where
  pub free_names : free_count are_free ≡ length entries
  pub bound_names : bound_count are_free ≡ length bound
  pub numbers : HasFree entries (woven are_free (keys_of entries) bound)
