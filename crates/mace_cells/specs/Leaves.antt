-- What steps of a search leave to it.
use Rattle.std.specs.Prelude.{◌⊎◌, Bool, List, map}
use Rattle.fol_core.specs.Meaning.{Meaning}
use Rattle.mace_cells.specs.Choices.{Decision, Choice, IsAhead, IsOpen, decisions}
use Rattle.mace_cells.specs.Solutions.{CoversIsomorphic}
use Rattle.mace_cells.specs.World.{World, Solves, AreAlike, IsSettled, cell_of}
use Rattle.mace_cells.specs.declared.frame.Frame.{Frame}

-- the choice that the code keeps as the number of its cell
abbrev pub choice_of : World → Frame → Choice
choice_of w f = record { cell = cell_of w f.cell; value = f.value; most = f.most }

abbrev pub choices_of : World → List Frame → List Choice
choices_of w fs = map (choice_of w) fs

abbrev pub decisions_of : World → List Frame → List Decision
decisions_of w fs = decisions (choices_of w fs)

-- each solution that was open is isomorphic to one that still is, and what is open now was open
-- before
pub record LeavesOpen (w : World) (live : Bool) (cs : List Choice) (live' : Bool)
    (cs' : List Choice) : Type 0 where
  pub covers : CoversIsomorphic w.size w.clauses w.fixed (IsOpen live cs) (IsOpen live' cs')
  pub behind : (m : Meaning) → IsOpen live' cs' m → IsOpen live cs m

-- The decisions settle a solution's values; it was open, and is ahead no more; each that was open is
-- isomorphic to one that is like it or is ahead now; what is ahead now was open before.
pub record FindsModel (w : World) (live : Bool) (cs : List Choice) (t : Meaning) (cs' : List Choice)
    : Type 0 where
  pub settles : IsSettled w (decisions cs') t
  pub open_before : IsOpen live cs t
  pub no_more : IsAhead t cs' → ⊥
  pub covers : CoversIsomorphic w.size w.clauses w.fixed (IsOpen live cs)
      (λ u. AreAlike w u t ⊎ IsAhead u cs')
  pub behind : (m : Meaning) → IsAhead m cs' → IsOpen live cs m

-- no solution was open
abbrev pub IsOver : World → Bool → List Choice → Type 0
IsOver w live cs = (m : Meaning) → Solves w m → IsOpen live cs m → ⊥
