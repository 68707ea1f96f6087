-- How large terms are, one beside the other and under a symbol.
use Rattle.std.proofs.Common.{◌≡◌, ℕ, ◌+◌, max, ap₂, List, [], ◌∷◌, ◌++◌, arith}
use Rattle.fol_core.specs.Sizes.{size_of, sizes_of, depth_of, depths_of, saturated}
use Rattle.fol_core.specs.Tree.{Tree, Trees, app, trees_of}
use Rattle.clause_limits.specs.Sizes.{measured, measured_all, beside, under_symbol}
use Rattle.clause_limits.specs.declared.measured.Measure.{Measure}

abbrev measure_of : ℕ → ℕ → Measure
measure_of s d = record { size = s; depth = d }

sizes_push : (us : List Tree) (u : Tree) → sizes_of (trees_of (us ++ u ∷ [])) ≡ sizes_of (trees_of us) + size_of u
sizes_push [] u = omega arith
sizes_push (t ∷ us) u = let e = sizes_push us u in omega (arith, e)

depths_push : (us : List Tree) (u : Tree) → depths_of (trees_of (us ++ u ∷ [])) ≡ max (depths_of (trees_of us)) (depth_of u)
depths_push [] u = omega arith
depths_push (t ∷ us) u = let e = depths_push us u in omega (arith, e)

size_beside : (us : List Tree) (u : Tree) → saturated (saturated (sizes_of (trees_of us)) + saturated (size_of u)) ≡ saturated (sizes_of (trees_of (us ++ u ∷ [])))
size_beside us u = let e = sizes_push us u in omega (arith, e)

depth_beside : (us : List Tree) (u : Tree) → max (saturated (depths_of (trees_of us))) (saturated (depth_of u)) ≡ saturated (depths_of (trees_of (us ++ u ∷ [])))
depth_beside us u = let e = depths_push us u in omega (arith, e)

-- a term more
pub measured_push : (us : List Tree) (u : Tree) → beside (measured_all (trees_of us)) (measured u) ≡ measured_all (trees_of (us ++ u ∷ []))
measured_push us u = ap₂ measure_of (size_beside us u) (depth_beside us u)

one_more : (n : ℕ) → saturated (saturated n + 1) ≡ saturated (n + 1)
one_more n = omega arith

-- and a symbol over them
pub measured_under : (f : ℕ) (ts : Trees) → under_symbol (measured_all ts) ≡ measured (app f ts)
measured_under f ts = ap₂ measure_of (one_more (sizes_of ts)) (one_more (depths_of ts))
