-- The interpretations that are searched for, and those isomorphic to them.
use Rattle.std.specs.Prelude.{ℕ, ◌≡◌, ◌<◌, nat_lt, List, map}
use Rattle.fol_core.specs.Literals.{ClauseTree, AreTrueClauses}
use Rattle.fol_core.specs.Meaning.{Meaning, IsLawful}

-- an interpretation by the elements below n that makes the clauses true
pub record IsSolution (n : ℕ) (clauses : List ClauseTree) (m : Meaning) : Type 0 where
  pub size : (x : ℕ) → m.within x ≡ nat_lt x n
  pub lawful : IsLawful m
  pub holds : AreTrueClauses m clauses

-- The second interpretation is the first with each element x called r x, which `back` takes back;
-- elements below k keep their names.
pub record IsCarried (k : ℕ) (r back : ℕ → ℕ) (m m' : Meaning) : Type 0 where
  pub fixes : (x : ℕ) → x < k → r x ≡ x
  pub there : (x : ℕ) → r (back x) ≡ x
  pub again : (x : ℕ) → back (r x) ≡ x
  pub within : (x : ℕ) → m'.within (r x) ≡ m.within x
  pub functions : (f : ℕ) (xs : List ℕ) → m'.function f (map r xs) ≡ r (m.function f xs)
  pub relations : (s : ℕ) (xs : List ℕ) → m'.relation s (map r xs) ≡ m.relation s xs

-- some permutation of the elements that leaves those below k carries the first to the second
abbrev pub AreIsomorphic : ℕ → Meaning → Meaning → Type 0
AreIsomorphic k m m' = (r : ℕ → ℕ) × ((back : ℕ → ℕ) × IsCarried k r back m m')

-- each solution that is P is isomorphic to a solution that is Q
abbrev pub CoversIsomorphic : ℕ → List ClauseTree → ℕ → (Meaning → Type 0) → (Meaning → Type 0) →
    Type 0
CoversIsomorphic n clauses k P Q =
    (m : Meaning) → IsSolution n clauses m → P m → (m' : Meaning)
    × (IsSolution n clauses m' × Q m' × AreIsomorphic k m m')
