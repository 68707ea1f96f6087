-- Interpretations: which numbers are elements, and what the symbols mean on them.
use Rattle.std.specs.Prelude.{ℕ, Bool, IsTrue, List, [], ◌∷◌}

-- which whole numbers are elements, and the value of a function and the truth of a relation on a
-- list of elements; there may be infinitely many elements
pub record Meaning : Type 0 where
  pub within : ℕ → Bool
  pub function : ℕ → List ℕ → ℕ
  pub relation : ℕ → List ℕ → Bool

-- each of the numbers is an element
abbrev pub AllWithin : Meaning → List ℕ → Type 0
AllWithin m [] = Unit {0}
AllWithin m (x ∷ xs) = IsTrue (m.within x) × AllWithin m xs

-- there is an element, and functions lead from elements to elements
pub record IsLawful (m : Meaning) : Type 0 where
  pub element : (x : ℕ) × IsTrue (m.within x)
  pub closed : (f : ℕ) (xs : List ℕ) → AllWithin m xs → IsTrue (m.within (m.function f xs))
