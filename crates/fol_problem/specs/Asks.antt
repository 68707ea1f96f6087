-- What goals ask for: variables of the quantifiers in front of them, by their places there.
use Rattle.std.specs.Prelude.{◌≡◌, ℕ, ◌<◌, ◌≤◌, List, [], ◌∷◌, length, map}
use Rattle.std.specs.List.{AllByRecursion}
use Rattle.fol_core.specs.Bound.{IsOnce}
use Rattle.fol_core.specs.Fol.{Fol, exists}
use Rattle.fol_core.specs.FormulaView.{fol_of}
use Rattle.fol_core.specs.Free.{free_vars_of}
use Rattle.fol_problem.specs.declared.problem.Input.{Input}
use Rattle.fol_problem.specs.declared.problem.Problem.{Problem}

-- the variables of the quantifiers `exists` in front
abbrev pub prefix_of : Fol → List ℕ
prefix_of (exists x f) = x ∷ prefix_of f
prefix_of f = []

-- A formula can be asked for these places: it is closed, and they are different ones of variables
-- in front, one at least.
pub record IsLive (f : Fol) (places : List ℕ) : Type 0 where
  pub closed : free_vars_of f ≡ []
  pub some : 1 ≤ length places
  pub within : AllByRecursion (λ k. k < length (prefix_of f)) places
  pub different : IsOnce places

-- it asks for nothing, or for such places
abbrev pub IsLiveOr : Fol → List ℕ → Type 0
IsLiveOr f [] = Unit {0}
IsLiveOr f (k ∷ ks) = IsLive f (k ∷ ks)

abbrev pub AreLive : List Input → Type 0
AreLive inputs = AllByRecursion (λ i. IsLiveOr (fol_of i.formula.shape) i.answer.items) inputs

-- what each formula of a problem asks for, parallel to what it states
abbrev pub asks_of : Problem → List (List ℕ)
asks_of p = map (λ i. i.answer.items) p.inputs.items
