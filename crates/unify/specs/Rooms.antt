-- How many nodes and variables take part.
use Rattle.std.specs.Prelude.{ℕ, zero, suc, ◌+◌, ◌*◌, ◌≤◌, ◌<◌, ◌≡◌, ◌⊎◌, List, [], ◌∷◌, ◌++◌, length, map}
use Rattle.fol_core.specs.Tree.{Tree, var, elem, app, list_of}
use Rattle.term_bank.specs.Bank.{tree_at}
use Rattle.term_bank.specs.declared.id.TermId.{TermId}
use Rattle.unify.specs.Bindings.{IsSpot, AreSpots, bound_variables}
use Rattle.unify.specs.Spots.{spot_tree, spot, In}
use Rattle.unify.specs.declared.spot.Bound.{Bound}
use Rattle.unify.specs.declared.spot.Spot.{Spot}

-- one term is an argument of the other
abbrev pub IsArgument : Tree → Tree → Type 0
IsArgument s (var x) = ⊥
IsArgument s (elem k) = ⊥
IsArgument s (app f ts) = In s (list_of ts)

-- what is bound to one of the variables is there too
abbrev pub AreFollowed : List Tree → List Spot → List Bound → Type 0
AreFollowed bank ps [] = Unit {0}
AreFollowed bank ps (b ∷ bs) =
    ((p : Spot) → In p ps → spot_tree bank p ≡ var b.variable → In b.to ps) × AreFollowed bank ps bs

-- nodes in contexts, with their arguments and with what is bound to those that are variables; and
-- these variables, and those that are bound
pub record TakePart (bank : List Tree) (bs : List Bound) (ps : List Spot) (xs : List ℕ) : Type 0
  where
    pub spots : (p : Spot) → In p ps → IsSpot bank p
    pub arguments : (p : Spot) (k : TermId) → In p ps → k.0 < length bank
        → IsArgument (tree_at bank k.0) (tree_at bank p.term.0)
        → In (record { term = k; context = p.context }) ps
    pub followed : AreFollowed bank ps bs
    pub named : (p : Spot) (x : ℕ) → In p ps → spot_tree bank p ≡ var x → In x xs
    pub bound : (x : ℕ) → In x (bound_variables bs) → In x xs

-- there is room for all nodes and variables that take part in making two terms the same
pub record HasBindingRoom (bank : List Tree) (bs : List Bound) (vars nodes : ℕ)
    (s t : Spot) : Type 0 where
  pub parts : List Spot
  pub names : List ℕ
  pub take_part : TakePart bank bs parts names
  pub left : In s parts
  pub right : In t parts
  pub few_parts : length parts ≤ nodes
  pub few_names : length names ≤ vars

-- each binding is an old one, or to one of these nodes
abbrev pub BindWithin : List Spot → List Bound → List Bound → Type 0
BindWithin ps old new = (b : Bound) → In b new → In b old ⊎ In b.to ps

-- Where there is room for two terms, all that takes part does so with the new bindings too, which
-- are to nodes of it: so there is room for terms of it still.
abbrev pub RoomStays : List Tree → List Bound → List Bound → ℕ → ℕ → Spot → Spot → Type 0
RoomStays bank old new vars nodes s t =
    (room : HasBindingRoom bank old vars nodes s t)
    → TakePart bank new room.parts room.names × BindWithin room.parts old new

-- the first terms of a bank, in a context, and in some contexts
abbrev pub terms_in : ℕ → ℕ → List Spot
terms_in c zero = []
terms_in c (suc n) = spot (record { 0 = n }) c ∷ terms_in c n

abbrev pub terms_in_all : List ℕ → ℕ → List Spot
terms_in_all [] n = []
terms_in_all (c ∷ cs) n = terms_in c n ++ terms_in_all cs n

-- what is bound stands in one of these contexts
abbrev pub AreBoundWithin : List ℕ → List Bound → Type 0
AreBoundWithin cs [] = Unit {0}
AreBoundWithin cs (b ∷ bs) = In b.to.context cs × AreBoundWithin cs bs

-- Room for all terms of a bank in each context that occurs is enough: for so many nodes and
-- variables, and for the variables that are bound.
pub record FitsInContexts (bank : List Tree) (bs : List Bound) (cs : List ℕ) (s t : Spot) : Type 0
  where
    pub spots : (p : Spot) → In p.context cs → p.term.0 < length bank → IsSpot bank p
    pub bound : AreBoundWithin cs bs
    pub targets : AreSpots bank bs
    pub left : IsSpot bank s × In s.context cs
    pub right : IsSpot bank t × In t.context cs

abbrev pub BanksHaveRoom : Type 0
BanksHaveRoom =
    (bank : List Tree) (bs : List Bound) (cs : List ℕ) (vars nodes : ℕ) (s t : Spot)
    → FitsInContexts bank bs cs s t → length cs * length bank ≤ nodes
    → length cs * length bank + length bs ≤ vars → HasBindingRoom bank bs vars nodes s t

-- And then what is bound stands in these contexts again.
abbrev pub ContextsStay : Type 0
ContextsStay =
    (bank : List Tree) (old new : List Bound) (cs : List ℕ) (vars nodes : ℕ) (s t : Spot)
    → FitsInContexts bank old cs s t → length cs * length bank ≤ nodes
    → length cs * length bank + length old ≤ vars → RoomStays bank old new vars nodes s t
    → AreBoundWithin cs new
