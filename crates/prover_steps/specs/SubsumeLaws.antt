-- What it means that a clause subsumes another.
use Rattle.std.specs.Prelude.{ℕ, ◌≡◌, ◌<◌, ◌↔◌, true, length, Some, slice_get}
use Rattle.fol_core.specs.Literals.{Lit, ClauseTree}
use Rattle.fol_core.specs.Substitutions.{Substitution}
use Rattle.substitutions.specs.Instances.{substitute_literal}
use Rattle.prover_steps.specs.Subsuming.{subsumes}

-- A substitution takes each literal of a clause to the one at its place in another, and no two have
-- one place.
pub record TakesInto (s : Substitution) (place : ℕ → ℕ) (c d : ClauseTree) : Type 0 where
  pub literals : (a : ℕ) (l : Lit) → slice_get c a ≡ Some l →
      slice_get d (place a) ≡ Some (substitute_literal s l)
  pub apart : (a b : ℕ) → a < length c → b < length c → place a ≡ place b → a ≡ b

-- so one does, by some places
abbrev pub IsTakenInto : ClauseTree → ClauseTree → Type 0
IsTakenInto c d = (s : Substitution) × (place : ℕ → ℕ) × TakesInto s place c d

-- a clause subsumes another exactly where it is taken into it
abbrev pub SubsumptionIsFound : Type 0
SubsumptionIsFound = (c d : ClauseTree) → (subsumes c d ≡ true) ↔ IsTakenInto c d
