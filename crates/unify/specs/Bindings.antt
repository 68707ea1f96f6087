-- Terms bound to variables, and the substitution that they amount to.
use Rattle.std.specs.Prelude.{ℕ, ◌<◌, ◌^◌, ◌+◌, ◌≡◌, IsTrue, List, [], ◌∷◌, ◌++◌, length, map}
use Rattle.fol_core.specs.Substitutions.{Substitution, substitute}
use Rattle.fol_core.specs.Tree.{Tree, var}
use Rattle.substitutions.specs.Instances.{followed}
use Rattle.substitutions.specs.Occurring.{has_variable}
use Rattle.term_bank.specs.Bank.{tree_at}
use Rattle.unifiers.specs.Unifier.{only}
use Rattle.unify.specs.Spots.{spot_tree, In}
use Rattle.unify.specs.declared.spot.Bound.{Bound}
use Rattle.unify.specs.declared.spot.Spot.{Spot}

-- a substitution gives each bound variable what it makes of the variable's term
abbrev pub Meets : Substitution → List Tree → List Bound → Type 0
Meets u bank [] = Unit {0}
Meets u bank (b ∷ bs) = (u b.variable ≡ substitute u (spot_tree bank b.to)) × Meets u bank bs

abbrev pub bound_variables : List Bound → List ℕ
bound_variables bs = map (λ b. b.variable) bs

-- a substitution, and then a term for one more variable
abbrev pub with_binding : Substitution → ℕ → Tree → Substitution
with_binding s x t = followed s (only x (substitute s t))

abbrev pub resolved_from : Substitution → List Tree → List Bound → Substitution
resolved_from s bank [] = s
resolved_from s bank (b ∷ bs) =
    resolved_from (with_binding s b.variable (spot_tree bank b.to)) bank bs

-- each variable with its term, and the variables in that with theirs, and so on
abbrev pub resolved : List Tree → List Bound → Substitution
resolved bank bs = resolved_from var bank bs

-- a substitution meets the bindings; each one that does is this one followed by itself; and other
-- variables stay
pub record SolvesBindings (s : Substitution) (bank : List Tree) (bs : List Bound) : Type 0 where
  pub meets : Meets s bank bs
  pub covers : (u : Substitution) → Meets u bank bs → (x : ℕ) → u x ≡ substitute u (s x)
  pub free : (x : ℕ) → ¬ In x (bound_variables bs) → s x ≡ var x

-- the term is the bank's, and its variables have numbers of 64 bits
pub record IsSpot (bank : List Tree) (p : Spot) : Type 0 where
  pub within : p.term.0 < length bank
  pub fits : (x : ℕ) → IsTrue (has_variable x (tree_at bank p.term.0)) → x + p.context < 2 ^ 64

abbrev pub AreSpots : List Tree → List Bound → Type 0
AreSpots bank [] = Unit {0}
AreSpots bank (b ∷ bs) = IsSpot bank b.to × AreSpots bank bs

-- the term is no variable that is among these
abbrev pub PointsOn : List Tree → List ℕ → Spot → Type 0
PointsOn bank xs p = (x : ℕ) → spot_tree bank p ≡ var x → ¬ In x xs

-- no variable is bound twice, nor to a variable that was bound before or to itself
abbrev pub AreBoundInOrder : List Tree → List ℕ → List Bound → Type 0
AreBoundInOrder bank xs [] = Unit {0}
AreBoundInOrder bank xs (b ∷ bs) =
    (¬ In b.variable xs) × PointsOn bank (xs ++ b.variable ∷ []) b.to
    × AreBoundInOrder bank (xs ++ b.variable ∷ []) bs

-- bindings that some substitution meets, the oldest first
pub record AreBindings (bank : List Tree) (bs : List Bound) : Type 0 where
  pub spots : AreSpots bank bs
  pub ordered : AreBoundInOrder bank [] bs
  pub met : (u : Substitution) × Meets u bank bs
