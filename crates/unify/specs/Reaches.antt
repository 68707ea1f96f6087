-- How the nodes are found that a term leads to.
use Rattle.std.specs.Prelude.{ℕ, suc, ◌<◌, ◌≤◌, ◌≡◌, IsTrue, false, List, [], ◌∷◌, ◌++◌, length}
use Rattle.fol_core.specs.Substitutions.{substitute}
use Rattle.fol_core.specs.Tree.{Tree, var, nodes}
use Rattle.substitutions.specs.Occurring.{has_variable}
use Rattle.term_bank.specs.declared.id.TermId.{TermId}
use Rattle.unify.specs.Bindings.{bound_variables, resolved, AreBindings, PointsOn}
use Rattle.unify.specs.Rooms.{TakePart}
use Rattle.unify.specs.Spots.{spot_tree, spot, In}
use Rattle.unify.specs.Steps.{walked}
use Rattle.unify.specs.declared.spot.Bound.{Bound}
use Rattle.unify.specs.declared.spot.Spot.{Spot}

-- no member stands twice
abbrev pub Differ : {A : Type 0} → List A → Type 0
Differ [] = Unit {0}
Differ (x ∷ xs) = (¬ In x xs) × Differ xs

-- what becomes of a term
abbrev pub becomes : List Tree → List Bound → Spot → Tree
becomes bank bs p = substitute (resolved bank bs) (spot_tree bank p)

-- small ones don't have the variable
abbrev pub Lacks : List Tree → List Bound → List Spot → ℕ → ℕ → Type 0
Lacks bank bs ps n x =
    (p : Spot) → In p ps → nodes (becomes bank bs p) < n
    → has_variable x (becomes bank bs p) ≡ false

-- one lacks a variable where smaller ones do, unless it is the variable itself
abbrev pub IsClosed : List Tree → List Bound → List Spot → Spot → Type 0
IsClosed bank bs ps p =
    (n x : ℕ) → Lacks bank bs ps n x → ¬ (spot_tree bank p ≡ var x)
    → nodes (becomes bank bs p) < suc n → has_variable x (becomes bank bs p) ≡ false

-- all variables of what becomes of one term are among those of another
abbrev pub VariablesWithin : List Tree → List Bound → Spot → Spot → Type 0
VariablesWithin bank bs p q =
    (x : ℕ) → IsTrue (has_variable x (becomes bank bs p))
    → IsTrue (has_variable x (becomes bank bs q))

-- what was reached so far, from the first on, and room for all that takes part
pub record Reaching (bank : List Tree) (bs : List Bound) (reached : List Spot) (room : ℕ) : Type 0
  where
    pub ps : List Spot
    pub xs : List ℕ
    pub parts : TakePart bank bs ps xs
    pub bindings : AreBindings bank bs
    pub few : length ps ≤ room
    pub root : Spot
    pub rest : List Spot
    pub shape : reached ≡ root ∷ rest
    pub inside : (p : Spot) → In p reached → In p ps
    pub differ : Differ reached
    pub free : (p : Spot) → In p reached → PointsOn bank (bound_variables bs) p
    pub within : (p : Spot) → In p reached → VariablesWithin bank bs p root

-- a node that is to be added is an argument of one that was reached
pub record CanAdd (bank : List Tree) (bs : List Bound) (reached : List Spot) (room : ℕ) (p : Spot) :
    Type 0 where
  pub reaching : Reaching bank bs reached room
  pub parent : Spot
  pub there : In parent reached
  pub inside : In p reaching.ps
  pub within : VariablesWithin bank bs p parent

abbrev pub Longer : List Spot → List Spot → Type 0
Longer old new = (more : List Spot) × (new ≡ old ++ more)

pub record Adds (bank : List Tree) (bs : List Bound) (old new : List Spot) (room : ℕ) (p : Spot) :
    Type 0 where
  pub reaching : Reaching bank bs new room
  pub longer : Longer old new
  pub added : In (walked bank bs p) new

-- arguments of a node that was reached
pub record CanSpread (bank : List Tree) (bs : List Bound) (reached : List Spot) (room : ℕ)
    (ks : List TermId) (i : ℕ) : Type 0 where
  pub reaching : Reaching bank bs reached room
  pub parent : Spot
  pub there : In parent reached
  pub inside : (ps : List Spot) (xs : List ℕ) → TakePart bank bs ps xs → In parent ps → (k : TermId)
      → In k ks → In (spot k i) ps
  pub within : (k : TermId) → In k ks → VariablesWithin bank bs (spot k i) parent

abbrev pub AreReached : List Tree → List Bound → List Spot → ℕ → List TermId → Type 0
AreReached bank bs reached i ks =
    (k : TermId) → In k ks → In (walked bank bs (spot k i)) reached

pub record Spreads (bank : List Tree) (bs : List Bound) (old new : List Spot) (room : ℕ)
    (ks : List TermId) (i : ℕ) : Type 0 where
  pub reaching : Reaching bank bs new room
  pub longer : Longer old new
  pub added : AreReached bank bs new i ks

-- a node that was reached, and what it leads to in one step
pub record CanExpand (bank : List Tree) (bs : List Bound) (reached : List Spot) (room : ℕ)
    (p : Spot) : Type 0 where
  pub reaching : Reaching bank bs reached room
  pub there : In p reached

pub record Expands (bank : List Tree) (bs : List Bound) (old new : List Spot) (room : ℕ) (p : Spot)
    : Type 0 where
  pub reaching : Reaching bank bs new room
  pub longer : Longer old new
  pub closed : IsClosed bank bs new p
