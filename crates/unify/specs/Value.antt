-- What bindings are for contracts.
use Rattle.std.specs.Prelude.{ℕ, List}
use Rattle.unify.specs.declared.spot.Bound.{Bound}

-- what is bound, the oldest first, and for how many variables and nodes there is room
pub record BindingsValue : Type 0 where
  pub bound : List Bound
  pub vars : ℕ
  pub nodes : ℕ
