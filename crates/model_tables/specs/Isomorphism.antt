-- Interpretations that differ in the names of their elements alone.
use Rattle.std.specs.Prelude.{ℕ, ◌≡◌, ◌<◌, IsTrue, List, length, map}
use Rattle.std.specs.List.{list_any}
use Rattle.fol_core.specs.Fol.{Fol}
use Rattle.fol_core.specs.Occurs.{names}
use Rattle.fol_problem.specs.Stated.{Stated}
use Rattle.fol_core.specs.SymbolTable.{arity_at, kind_at}
use Rattle.fol_core.specs.declared.symbols.Kind.{Kind}
use Rattle.fol_core.specs.declared.symbols.Kind.TheVariants.{Function, Relation}
use Rattle.model_tables.specs.Size.{AllBelow, formulas_of}
use Rattle.model_tables.specs.Tables.{Finite, has, listed_value}

-- r exchanges the elements below n
abbrev pub IsPermutation : ℕ → (ℕ → ℕ) → Type 0
IsPermutation n r = ((x : ℕ) → x < n → r x < n) × ((x y : ℕ) → x < n → y < n → r x ≡ r y → x ≡ y)

-- and leaves each element where it is that the formulas name
abbrev pub FixesNumerals : List Fol → (ℕ → ℕ) → Type 0
FixesNumerals fs r = (k : ℕ) → IsTrue (list_any (λ f. names k f) fs) → r k ≡ k

-- a value of a function is an element, a value of a relation none
abbrev pub carried : Kind → (ℕ → ℕ) → ℕ → ℕ
carried Function r v = r v
carried Relation r v = v

-- the second tables, of size n, are the first ones with each element x called r x: so for each
-- symbol that has values
pub record IsIsomorphism (n : ℕ) (p : Stated) (r : ℕ → ℕ) (t u : Finite) : Type 0 where
  pub permutes : IsPermutation n r
  pub fixes : FixesNumerals (formulas_of p) r
  pub carries : (s : ℕ) (xs : List ℕ) → IsTrue (has t s) → length xs ≡ arity_at p.symbols s →
      AllBelow n xs →
      listed_value u s (map r xs) ≡ carried (kind_at p.symbols s) r (listed_value t s xs)
