-- The value of a term and the truth of a formula in an interpretation.
use Rattle.std.specs.Prelude.{ℕ, ◌≡◌, ◌==◌, if◌then◌else◌, IsTrue, List, [], ◌∷◌}
use Rattle.fol_core.specs.Tree.{Tree, var, elem, app, Trees, none, more}
use Rattle.fol_core.specs.Fol.{Fol, verum, falsum, equal, atom, negation, conjunction, disjunction, implication, equivalence, forall, exists}
use Rattle.fol_core.specs.Meaning.{Meaning}

-- an assignment gives each variable an element
abbrev pub Assignment : Type 0
Assignment = ℕ → ℕ

-- the assignment with this variable's element changed
abbrev pub with_var : Assignment → ℕ → ℕ → Assignment
with_var e x n = λ y. if y == x then n else e y

-- each variable's element is within
abbrev pub IsWithin : Meaning → Assignment → Type 0
IsWithin m e = (x : ℕ) → IsTrue (m.within (e x))

abbrev mutual
  -- a variable has its assigned element, an element itself, an application the function's value on
  -- its arguments' values
  pub value_of : Meaning → Assignment → Tree → ℕ
  value_of m e (var x) = e x
  value_of m e (elem k) = k
  value_of m e (app f ts) = m.function f (values_of m e ts)

  pub values_of : Meaning → Assignment → Trees → List ℕ
  values_of m e none = []
  values_of m e (more t ts) = value_of m e t ∷ values_of m e ts

-- Truth under an assignment, the usual classical one. "Or" and "some" are spelled by denials, so
-- that what isn't false is true: the logic of these proofs has no excluded middle, and an
-- interpretation may have infinitely many elements.
abbrev pub Holds : Meaning → Assignment → Fol → Type 0
Holds m e verum = Unit {0}
Holds m e falsum = ⊥
Holds m e (equal s t) = value_of m e s ≡ value_of m e t
Holds m e (atom r ts) = IsTrue (m.relation r (values_of m e ts))
Holds m e (negation f) = ¬ Holds m e f
Holds m e (conjunction f g) = Holds m e f × Holds m e g
Holds m e (disjunction f g) = ¬ (¬ Holds m e f × ¬ Holds m e g)
Holds m e (implication f g) = Holds m e f → Holds m e g
Holds m e (equivalence f g) = (Holds m e f → Holds m e g) × (Holds m e g → Holds m e f)
Holds m e (forall x f) = (n : ℕ) → IsTrue (m.within n) → Holds m (with_var e x n) f
Holds m e (exists x f) = ¬ ((n : ℕ) → IsTrue (m.within n) → ¬ Holds m (with_var e x n) f)
