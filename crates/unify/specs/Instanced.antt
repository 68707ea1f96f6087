-- What terms become with what is bound to their variables.
use Rattle.std.specs.Prelude.{ℕ, ◌≡◌, Bool, true, false, List, map, length}
use Rattle.fol_core.specs.Tree.{Tree}
use Rattle.term_bank.specs.Bank.{tree_at, IsAt}
use Rattle.term_bank.specs.Cells.{AreNumbersBelow, numbers}
use Rattle.term_bank.specs.declared.id.TermId.{TermId}
use Rattle.unify.specs.Bindings.{IsSpot, bound_variables, PointsOn, AreBindings}
use Rattle.unify.specs.Reaches.{becomes}
use Rattle.unify.specs.Spots.{spot, In}
use Rattle.unify.specs.declared.spot.Bound.{Bound}
use Rattle.unify.specs.declared.spot.Image.{Image}
use Rattle.unify.specs.declared.spot.Spot.{Spot}

-- what was built of a node is what it becomes
pub record IsBuilt (bank : List Tree) (bs : List Bound) (m : Image) : Type 0 where
  pub spot : IsSpot bank m.spot
  pub term : IsAt bank m.term.0 (becomes bank bs m.spot)

abbrev pub AreBuilt : List Tree → List Bound → List Image → Type 0
AreBuilt bank bs images = (m : Image) → In m images → IsBuilt bank bs m

-- a node that is no bound variable
pub record IsLoose (bank : List Tree) (bs : List Bound) (p : Spot) : Type 0 where
  pub spot : IsSpot bank p
  pub free : PointsOn bank (bound_variables bs) p

abbrev pub AreLoose : List Tree → List Bound → List Spot → Type 0
AreLoose bank bs ps = (p : Spot) → In p ps → IsLoose bank bs p

-- what is known while a term is built
pub record IsBuilding (bank : List Tree) (bs : List Bound) (images : List Image)
    (pending : List Spot) : Type 0 where
  pub bindings : AreBindings bank bs
  pub built : AreBuilt bank bs images
  pub loose : AreLoose bank bs pending

-- the numbers of what arguments become
pub record AreTheirs (bank : List Tree) (bs : List Bound) (i : ℕ) (ks js : List TermId) : Type 0
  where
    pub within : AreNumbersBelow (length bank) (numbers js)
    pub trees : map (λ j. tree_at bank j.0) js ≡ map (λ k. becomes bank bs (spot k i)) ks

abbrev pub TheirsUnless : List Tree → List Bound → ℕ → List TermId → List TermId → Bool → Type 0
TheirsUnless bank bs i ks js true = Unit {0}
TheirsUnless bank bs i ks js false = AreTheirs bank bs i ks js

abbrev pub ArgumentSpots : List Tree → ℕ → List TermId → Type 0
ArgumentSpots bank i ks = (k : TermId) → In k ks → IsSpot bank (spot k i)
