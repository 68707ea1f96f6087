-- How great terms are.
use Rattle.std.specs.Prelude.{ℕ, ◌+◌, ◌≡◌, max, List, [], ◌∷◌, length}
use Rattle.std.specs.List.{slice_index_or, sum_by}
use Rattle.fol_core.specs.Sizes.{size_of, depth_of, saturated}
use Rattle.fol_core.specs.Substitutions.{Substitution}
use Rattle.fol_core.specs.Tree.{Tree}
use Rattle.term_unifiers.specs.Classes.{In}
use Rattle.term_unifiers.specs.Merging.{nth}
use Rattle.clause_limits.specs.declared.measured.Measure.{Measure}

pub record IsMeasured (t : Tree) (m : Measure) : Type 0 where
  pub sized : m.size ≡ saturated (size_of t)
  pub deep : m.depth ≡ saturated (depth_of t)

abbrev pub measure_at : List Measure → ℕ → Measure
measure_at measures n = slice_index_or measures n record { size = 0; depth = 0 }

-- the terms of these classes are measured
pub record AreMeasured (terms : Substitution) (order : List ℕ) (count : ℕ)
    (measures : List Measure) : Type 0 where
  pub as_many : length measures ≡ count
  pub measured : (r : ℕ) → In r order → IsMeasured (terms r) (measure_at measures r)

abbrev pub greatest : {X : Type 0} → (X → ℕ) → List X → ℕ
greatest f [] = 0
greatest f (x ∷ xs) = max (f x) (greatest f xs)

-- what is kept of the terms of arguments' classes
abbrev pub size_at : List ℕ → List Measure → ℕ → ℕ
size_at links measures k = (measure_at measures (nth links k)).size

abbrev pub depth_at : List ℕ → List Measure → ℕ → ℕ
depth_at links measures k = (measure_at measures (nth links k)).depth

-- a symbol over arguments of measured classes
pub record IsAbove (links : List ℕ) (measures : List Measure) (ks : List ℕ) (m : Measure) : Type 0
  where
    pub sized : m.size ≡ saturated (sum_by (size_at links measures) ks + 1)
    pub deep : m.depth ≡ saturated (greatest (depth_at links measures) ks + 1)
