-- Clauses by several numbers.
use Rattle.std.specs.Prelude.{◌≡◌, ℕ, Bool, ◌==◌, List, ◌++◌}
use Rattle.std.specs.List.{list_any}
use Rattle.discrim_tree.specs.Nodes.{IsIn}
use Rattle.prover_steps.specs.Clashing.{Held}

-- whether a clause has one of these numbers
abbrev pub is_numbered : List ℕ → Held → Bool
is_numbered ns h = list_any (λ n. h.number == n) ns

-- numbers are added, and all that are asked for are among them
pub record AddsAll (old asked new : List ℕ) : Type 0 where
  pub added : List ℕ
  pub behind : new ≡ old ++ added
  pub all : (n : ℕ) → IsIn n asked → IsIn n added
