-- Which variables a formula binds, and which symbols it has.
use Rattle.std.specs.Prelude.{ℕ, Bool, false, ◌==◌, ◌||◌, ◌≡◌, ◌<◌, IsTrue, List, [], ◌∷◌, ◌++◌}
use Rattle.fol_core.specs.Tree.{Tree, var, elem, app, Trees, none, more}
use Rattle.fol_core.specs.Fol.{Fol, verum, falsum, equal, atom, negation, conjunction, disjunction, implication, equivalence, forall, exists}
use Rattle.fol_core.specs.Free.{is_in, closure_of}

-- the variables of the quantifiers, from left to right
abbrev pub binders_of : Fol → List ℕ
binders_of verum = []
binders_of falsum = []
binders_of (equal s t) = []
binders_of (atom r ts) = []
binders_of (negation f) = binders_of f
binders_of (conjunction f g) = binders_of f ++ binders_of g
binders_of (disjunction f g) = binders_of f ++ binders_of g
binders_of (implication f g) = binders_of f ++ binders_of g
binders_of (equivalence f g) = binders_of f ++ binders_of g
binders_of (forall x f) = x ∷ binders_of f
binders_of (exists x f) = x ∷ binders_of f

-- no number stands twice
abbrev pub IsOnce : List ℕ → Type 0
IsOnce [] = Unit {0}
IsOnce (x ∷ xs) = (is_in x xs ≡ false) × IsOnce xs

-- no variable is bound twice, and none is both bound and free: the closure binds none twice
abbrev pub BindsOnce : Fol → Type 0
BindsOnce f = IsOnce (binders_of (closure_of f))

abbrev mutual
  -- whether the term has the symbol
  pub has_symbol : ℕ → Tree → Bool
  has_symbol n (var x) = false
  has_symbol n (elem k) = false
  has_symbol n (app f ts) = n == f || have_symbol n ts

  pub have_symbol : ℕ → Trees → Bool
  have_symbol n none = false
  have_symbol n (more t ts) = has_symbol n t || have_symbol n ts

-- whether the formula has the symbol, as a function or a relation
abbrev pub uses_symbol : ℕ → Fol → Bool
uses_symbol n verum = false
uses_symbol n falsum = false
uses_symbol n (equal s t) = has_symbol n s || has_symbol n t
uses_symbol n (atom r ts) = n == r || have_symbol n ts
uses_symbol n (negation f) = uses_symbol n f
uses_symbol n (conjunction f g) = uses_symbol n f || uses_symbol n g
uses_symbol n (disjunction f g) = uses_symbol n f || uses_symbol n g
uses_symbol n (implication f g) = uses_symbol n f || uses_symbol n g
uses_symbol n (equivalence f g) = uses_symbol n f || uses_symbol n g
uses_symbol n (forall x f) = uses_symbol n f
uses_symbol n (exists x f) = uses_symbol n f

-- each symbol of the formula has a number below this one
abbrev pub HasSymbolsBelow : ℕ → Fol → Type 0
HasSymbolsBelow size f = (n : ℕ) → IsTrue (uses_symbol n f) → n < size

-- and each of terms
abbrev pub HaveSymbolsBelow : ℕ → Trees → Type 0
HaveSymbolsBelow size ts = (n : ℕ) → IsTrue (have_symbol n ts) → n < size
