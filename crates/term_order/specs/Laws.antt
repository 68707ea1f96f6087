-- What holds of orders of terms.
use Rattle.std.specs.Prelude.{ℕ, ◌≡◌, Bool, false, IsTrue}
use Rattle.fol_core.specs.Tree.{Tree}
use Rattle.fol_core.specs.Substitutions.{Substitution, substitute}

-- no term is above itself, what is above a term is above all below it, and instances are as their
-- terms are
pub record IsTermOrder (greater : Tree → Tree → Bool) : Type 0 where
  pub irreflexive : (t : Tree) → greater t t ≡ false
  pub transitive : (s t u : Tree) → IsTrue (greater s t) → IsTrue (greater t u) →
      IsTrue (greater s u)
  pub stable : (p : Substitution) (s t : Tree) → IsTrue (greater s t) →
      IsTrue (greater (substitute p s) (substitute p t))

-- an order of symbols
pub record IsSymbolOrder (above : ℕ → ℕ → Bool) : Type 0 where
  pub irreflexive : (f : ℕ) → above f f ≡ false
  pub transitive : (f g h : ℕ) → IsTrue (above f g) → IsTrue (above g h) → IsTrue (above f h)
