-- What is found of unifiers and matches.
use Rattle.std.specs.Prelude.{ℕ, ◌≡◌, Bool, true, false, IsTrue, List, ◌++◌}
use Rattle.fol_core.specs.Substitutions.{Substitution, substitute}
use Rattle.fol_core.specs.Tree.{Tree, var}
use Rattle.substitutions.specs.Occurring.{has_variable}
use Rattle.unify.specs.Bindings.{Meets, bound_variables, resolved, AreBindings}
use Rattle.unify.specs.Spots.{In}
use Rattle.unify.specs.declared.spot.Bound.{Bound}

-- there may be more bindings
abbrev pub BindsMore : List Bound → List Bound → Type 0
BindsMore old new = (more : List Bound) × (new ≡ old ++ more)

-- what meets the new bindings is what meets the old ones and makes the terms the same
pub record Unites (bank : List Tree) (old new : List Bound) (s t : Tree) : Type 0 where
  pub bindings : AreBindings bank new
  pub extends : BindsMore old new
  pub equal : (u : Substitution) → Meets u bank new → substitute u s ≡ substitute u t
  pub every : (u : Substitution) → Meets u bank old → substitute u s ≡ substitute u t
      → Meets u bank new

-- nothing that meets the bindings makes the terms the same
abbrev pub AreApart : List Tree → List Bound → Tree → Tree → Type 0
AreApart bank bs s t = (u : Substitution) → Meets u bank bs → ¬ (substitute u s ≡ substitute u t)

abbrev pub IsUnited : List Tree → List Bound → List Bound → Tree → Tree → Bool → Type 0
IsUnited bank old new s t true = Unites bank old new s t
IsUnited bank old new s t false = AreApart bank old s t × (new ≡ old)

-- a substitution leaves the variables of a term as they are
abbrev pub LeavesAlone : Substitution → Tree → Type 0
LeavesAlone u t = (x : ℕ) → IsTrue (has_variable x t) → u x ≡ var x

-- what meets the new bindings and leaves the second term alone is what meets the old ones and makes
-- of the first term the second one
pub record Matches (bank : List Tree) (old new : List Bound) (s t : Tree) : Type 0 where
  pub bindings : AreBindings bank new
  pub extends : BindsMore old new
  pub unbound : (x : ℕ) → IsTrue (has_variable x t) → ¬ In x (bound_variables new)
  pub made : substitute (resolved bank new) s ≡ t
  pub equal : (u : Substitution) → Meets u bank new → LeavesAlone u t → substitute u s ≡ t
  pub every : (u : Substitution) → Meets u bank old → LeavesAlone u t → substitute u s ≡ t
      → Meets u bank new

-- nothing that meets the bindings and leaves the second term alone makes it of the first one
abbrev pub HasNoInstance : List Tree → List Bound → Tree → Tree → Type 0
HasNoInstance bank bs s t =
    (u : Substitution) → Meets u bank bs → LeavesAlone u t → ¬ (substitute u s ≡ t)

abbrev pub IsMatched : List Tree → List Bound → List Bound → Tree → Tree → Bool → Type 0
IsMatched bank old new s t true = Matches bank old new s t
IsMatched bank old new s t false = HasNoInstance bank old s t × (new ≡ old)
