-- Which formulas a finite interpretation covers.
use Rattle.std.specs.Prelude.{ℕ, ◌+◌, ◌<◌, nat_lt, Bool, true, ◌&&◌, IsTrue}
use Rattle.fol_core.specs.Bound.{uses_symbol}
use Rattle.fol_core.specs.Fol.{Fol, verum, falsum, equal, atom, negation, conjunction, disjunction, implication, equivalence, forall, exists}
use Rattle.fol_core.specs.Occurs.{names}
use Rattle.fol_core.specs.Tree.{Tree, var, elem, app, Trees, none, more}
use Rattle.model_tables.specs.Tables.{Finite, has}

-- Each symbol of the formula has an entry, and each number in it names an element.
abbrev pub Covers : Finite → Fol → Type 0
Covers t f =
    ((s : ℕ) → IsTrue (uses_symbol s f) → IsTrue (has t s))
    × ((k : ℕ) → IsTrue (names k f) → k < t.top + 1)

abbrev mutual
  -- the same as a test, of a term
  pub covers_term : Finite → Tree → Bool
  covers_term t (var x) = true
  covers_term t (elem k) = nat_lt k (t.top + 1)
  covers_term t (app f us) = has t f && covers_terms t us

  pub covers_terms : Finite → Trees → Bool
  covers_terms t none = true
  covers_terms t (more u us) = covers_term t u && covers_terms t us

-- and of a formula
abbrev pub covers : Finite → Fol → Bool
covers t verum = true
covers t falsum = true
covers t (equal u v) = covers_term t u && covers_term t v
covers t (atom r us) = has t r && covers_terms t us
covers t (negation f) = covers t f
covers t (conjunction f g) = covers t f && covers t g
covers t (disjunction f g) = covers t f && covers t g
covers t (implication f g) = covers t f && covers t g
covers t (equivalence f g) = covers t f && covers t g
covers t (forall x f) = covers t f
covers t (exists x f) = covers t f
