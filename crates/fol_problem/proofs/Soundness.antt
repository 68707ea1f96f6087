-- Formulas that bind variables once, with symbols of a table.
use Rattle.std.proofs.Common.{◌≡◌, ℕ, ◌≤◌, List, [], ◌∷◌, ◌++◌, refl, arith}
use Rattle.fol_core.specs.Bound.{uses_symbol, BindsOnce, HasSymbolsBelow}
use Rattle.fol_core.specs.Free.{closed_over}
use Rattle.fol_problem.specs.Stated.{Said, said, AreWellFormed}
use Rattle.fol_core.specs.Fol.{Fol}
use Rattle.fol_problem.specs.declared.problem.Role.{Role}

-- a greater table does as well
pub sound_below : (small great : ℕ) (ss : List Said) → small ≤ great → AreWellFormed small ss → AreWellFormed great ss
sound_below small great [] le well_formed = tt
sound_below small great (s ∷ ss) le well_formed = (well_formed.0, λ n i. let lt = well_formed.1 n i in omega arith, sound_below small great ss le well_formed.2)

-- one more formula
pub sound_push : (size : ℕ) (ss : List Said) (role : Role) (f : Fol) → AreWellFormed size ss → BindsOnce f → HasSymbolsBelow size f → AreWellFormed size (ss ++ said role f ∷ [])
sound_push size [] role f well_formed once below = (once, below, tt)
sound_push size (s ∷ ss) role f well_formed once below = (well_formed.0, well_formed.1, sound_push size ss role f well_formed.2 once below)

-- a closure has the symbols of its formula
pub uses_closed : (n : ℕ) (xs : List ℕ) (f : Fol) → uses_symbol n (closed_over xs f) ≡ uses_symbol n f
uses_closed n [] f = refl
uses_closed n (x ∷ xs) f = uses_closed n xs f
