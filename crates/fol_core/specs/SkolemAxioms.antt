-- Skolem symbols, and when an interpretation picks witnesses by them.
use Rattle.std.specs.Prelude.{ℕ, ◌≡◌, ◌==◌, ◌||◌, false, IsTrue, List, [], ◌∷◌, map}
use Rattle.fol_core.specs.Bound.{IsOnce, uses_symbol}
use Rattle.fol_core.specs.Fol.{Fol}
use Rattle.fol_core.specs.Free.{is_in, free_vars_of}
use Rattle.fol_core.specs.Meaning.{Meaning}
use Rattle.fol_core.specs.Truth.{Assignment, with_var, IsWithin, Holds}

-- a symbol whose value, for elements of its variables, is to make the body true in place of another
-- variable
pub record SkolemAxiom : Type 0 where
  pub symbol : ℕ
  pub variables : List ℕ
  pub variable : ℕ
  pub body : Fol

-- whatever elements the variables have: if some element makes the body true, then the symbol's
-- value does
abbrev pub PicksWitness : Meaning → SkolemAxiom → Type 0
PicksWitness m w = (e : Assignment) → IsWithin m e → (n : ℕ) → IsTrue (m.within n)
    → Holds m (with_var e w.variable n) w.body →
    Holds m (with_var e w.variable (m.function w.symbol (map e w.variables))) w.body

abbrev pub PicksWitnesses : Meaning → List SkolemAxiom → Type 0
PicksWitnesses m [] = Unit {0}
PicksWitnesses m (w ∷ ws) = PicksWitness m w × PicksWitnesses m ws

-- none of the symbols stands in the formula
abbrev pub AreNotIn : List SkolemAxiom → Fol → Type 0
AreNotIn [] f = Unit {0}
AreNotIn (w ∷ ws) f = (uses_symbol w.symbol f ≡ false) × AreNotIn ws f

-- the symbol is none of theirs
abbrev pub IsApart : ℕ → List SkolemAxiom → Type 0
IsApart s [] = Unit {0}
IsApart s (w ∷ ws) = ((w.symbol == s) ≡ false) × IsApart s ws

-- the variables are all different, and with the replaced one they are all that are free in the body
abbrev pub IsClosedBody : SkolemAxiom → Type 0
IsClosedBody w =
    IsOnce w.variables
    × ((x : ℕ) → IsTrue (is_in x (free_vars_of w.body)) →
    IsTrue (x == w.variable || is_in x w.variables))

-- all symbols are different, and each body has those before its own alone: so values can be found
-- for one after the other
abbrev pub AreInOrder : List SkolemAxiom → Type 0
AreInOrder [] = Unit {0}
AreInOrder (w ∷ ws) =
    IsClosedBody w × AreNotIn (w ∷ ws) w.body × IsApart w.symbol ws × AreInOrder ws
