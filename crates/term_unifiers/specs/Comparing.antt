-- Heads of two nodes compared.
use Rattle.std.specs.Prelude.{ℕ, ◌≤◌, ◌≡◌, List, ◌++◌, length, map}
use Rattle.fol_core.specs.Substitutions.{Substitution}
use Rattle.term_unifiers.specs.Merging.{IsNoVariable, arity}
use Rattle.term_unifiers.specs.Shapes.{Shape, shape_at, seen, AreBelow}
use Rattle.term_unifiers.specs.declared.work.Comparison.{Comparison}
use Rattle.term_unifiers.specs.declared.work.Comparison.TheVariants.{Clash, First, Second}

-- no labels of the arguments make them the same
pub record AreApart (p q : Shape) : Type 0 where
  pub first : IsNoVariable p
  pub second : IsNoVariable q
  pub apart : (label : Substitution) → ¬ (seen label p ≡ seen label q)

-- the second is a variable, or the heads are the same, and the arguments stand behind the pairs
pub record Pairs (n : ℕ) (p q : Shape) (lefts rights left_pairs right_pairs : List ℕ) : Type 0
  where
    pub ks : List ℕ
    pub js : List ℕ
    pub left : left_pairs ≡ lefts ++ ks
    pub right : right_pairs ≡ rights ++ js
    pub left_below : AreBelow n ks
    pub right_below : AreBelow n js
    pub even : length ks ≡ length js
    pub few : length ks ≤ arity q
    pub heads : IsNoVariable q → IsNoVariable p
    pub arguments : (label : Substitution)
        → (IsNoVariable q → seen label p ≡ seen label q) → map label ks ≡ map label js
    pub whole : (label : Substitution) → map label ks ≡ map label js → IsNoVariable q
        → seen label q ≡ seen label p

-- the first is a variable
pub record IsPassed (p : Shape) (lefts rights left_pairs right_pairs : List ℕ) : Type 0 where
  pub variable : ¬ IsNoVariable p
  pub left : left_pairs ≡ lefts
  pub right : right_pairs ≡ rights

abbrev pub Compared : List Shape → ℕ → ℕ → List ℕ → List ℕ → List ℕ → List ℕ → Comparison
    → Type 0
Compared shapes p q lefts rights left_pairs right_pairs Clash =
    AreApart (shape_at shapes p) (shape_at shapes q)
Compared shapes p q lefts rights left_pairs right_pairs First =
    Pairs (length shapes) (shape_at shapes p) (shape_at shapes q) lefts rights left_pairs
    right_pairs
Compared shapes p q lefts rights left_pairs right_pairs Second =
    IsPassed (shape_at shapes p) lefts rights left_pairs right_pairs
