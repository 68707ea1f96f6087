-- What is kept while terms are made the same.
use Rattle.std.specs.Prelude.{ℕ, ◌==◌, ◌<◌, ◌≤◌, ◌≡◌, ◌⊎◌, Bool, true, false, IsTrue, if◌then◌else◌, List, [], ◌∷◌, ◌++◌, length, map, vec_capacity}
use Rattle.fol_core.specs.Substitutions.{Substitution, substitute}
use Rattle.fol_core.specs.Tree.{Tree, var, nodes}
use Rattle.substitutions.specs.Occurring.{has_variable}
use Rattle.unifiers.specs.Matching.{same_tree}
use Rattle.unify.specs.Bindings.{Meets, IsSpot, bound_variables, resolved, AreBindings, PointsOn}
use Rattle.unify.specs.Rooms.{TakePart, BindWithin}
use Rattle.unify.specs.Spots.{spot_tree, In}
use Rattle.unify.specs.Unified.{BindsMore}
use Rattle.unify.specs.declared.spot.Bound.{Bound}
use Rattle.unify.specs.declared.spot.Link.{Link}
use Rattle.unify.specs.declared.spot.Spot.{Spot}
use Rattle.unify.specs.declared.spot.Workspace.{Workspace}

-- what is bound to a variable, and in turn to that where it is a variable
abbrev pub stepped : List Tree → Bound → Spot → Spot
stepped bank b p = if same_tree (var b.variable) (spot_tree bank p) then b.to else p

abbrev pub walked : List Tree → List Bound → Spot → Spot
walked bank [] p = p
walked bank (b ∷ bs) p = walked bank bs (stepped bank b p)

abbrev pub same_spot : Spot → Spot → Bool
same_spot p q = if p.term.0 == q.term.0
    then p.context == q.context else false

-- the one that stands for a class
abbrev pub linked : List Link → Spot → Spot
linked [] p = p
linked (k ∷ ks) p = linked ks (if same_spot k.from p then k.to else p)

abbrev pub froms : List Link → List Spot
froms ks = map (λ k. k.from) ks

-- what a substitution makes of two terms is the same where one of it is so small
abbrev pub Alike : ℕ → Substitution → Tree → Tree → Type 0
Alike n u s t =
    (nodes (substitute u s) < n) ⊎ (nodes (substitute u t) < n) → substitute u s ≡ substitute u t

abbrev pub AlikeLinks : ℕ → Substitution → List Tree → List Link → Type 0
AlikeLinks n u bank [] = Unit {0}
AlikeLinks n u bank (k ∷ ks) =
    Alike n u (spot_tree bank k.from) (spot_tree bank k.to) × AlikeLinks n u bank ks

abbrev pub AreJoined : Substitution → List Tree → List Link → Type 0
AreJoined u bank [] = Unit {0}
AreJoined u bank (k ∷ ks) =
    (substitute u (spot_tree bank k.from) ≡ substitute u (spot_tree bank k.to))
    × AreJoined u bank ks

-- the term is no variable
abbrev pub IsNoVariable : List Tree → Spot → Type 0
IsNoVariable bank p = (x : ℕ) → ¬ (spot_tree bank p ≡ var x)

-- a link from one that had none to one that has none
pub record IsLink (bank : List Tree) (ps earlier : List Spot) (k : Link) : Type 0 where
  pub from_in : In k.from ps
  pub to_in : In k.to ps
  pub fresh : ¬ In k.from earlier
  pub onward : ¬ In k.to (earlier ++ k.from ∷ [])
  pub no_from : IsNoVariable bank k.from
  pub no_to : IsNoVariable bank k.to

abbrev pub AreLinks : List Tree → List Spot → List Spot → List Link → Type 0
AreLinks bank ps earlier [] = Unit {0}
AreLinks bank ps earlier (k ∷ ks) =
    IsLink bank ps earlier k × AreLinks bank ps (earlier ++ k.from ∷ []) ks

-- a variable is one of these terms
abbrev pub IsShownIn : List Tree → List Spot → ℕ → Type 0
IsShownIn bank ps x = (p : Spot) × In p ps × (spot_tree bank p ≡ var x)

-- a substitution leaves the variables that are kept as they are
abbrev pub Leaving : Substitution → List Tree → List Spot → Type 0
Leaving u bank kept = (x : ℕ) → IsShownIn bank kept x → u x ≡ var x

abbrev pub AllSpots : List Tree → List Spot → Type 0
AllSpots bank ps = (p : Spot) → In p ps → IsSpot bank p

-- what holds all the time, and room for the nodes and variables that take part
pub record IsWork (bank : List Tree) (ps : List Spot) (xs : List ℕ) (w : Workspace) : Type 0 where
  pub parts : TakePart bank w.bound.items ps xs
  pub bindings : AreBindings bank w.bound.items
  pub links : AreLinks bank ps [] w.links.items
  pub kept : AllSpots bank w.kept.items
  pub kept_free : (x : ℕ) → IsShownIn bank w.kept.items x → ¬ In x (bound_variables w.bound.items)
  pub vars : length xs ≤ vec_capacity w.bound
  pub nodes : length ps ≤ vec_capacity w.links
  pub reach : length ps ≤ vec_capacity w.reached

pub record WorkStands (bank : List Tree) (w : Workspace) : Type 0 where
  pub ps : List Spot
  pub xs : List ℕ
  pub work : IsWork bank ps xs w

-- and two of the nodes
pub record WorksAt (bank : List Tree) (w : Workspace) (p q : Spot) : Type 0 where
  pub ps : List Spot
  pub xs : List ℕ
  pub work : IsWork bank ps xs w
  pub left : In p ps
  pub right : In q ps

-- what takes part in work does so when more is bound, to nodes of it
pub record StaysWork (bank : List Tree) (ps : List Spot) (xs : List ℕ) (old new : Workspace)
    : Type 0 where
  pub work : IsWork bank ps xs new
  pub within : BindWithin ps old.bound.items new.bound.items

-- whatever takes part, a variable and a term among it, or two terms
abbrev pub VariableStays : List Tree → Workspace → Workspace → ℕ → Spot → Bool → Type 0
VariableStays bank old new x q false = Unit {0}
VariableStays bank old new x q true =
    (ps : List Spot) (xs : List ℕ) → IsWork bank ps xs old → In x xs → In q ps
    → StaysWork bank ps xs old new

abbrev pub TermsStay : List Tree → Workspace → Workspace → Spot → Spot → Bool → Type 0
TermsStay bank old new p q false = Unit {0}
TermsStay bank old new p q true =
    (ps : List Spot) (xs : List ℕ) → IsWork bank ps xs old → In p ps → In q ps
    → StaysWork bank ps xs old new

-- more is bound and linked, and what is kept and the room stay
pub record WorkGoesOn (old new : Workspace) : Type 0 where
  pub bound : BindsMore old.bound.items new.bound.items
  pub links : (more : List Link) × (new.links.items ≡ old.links.items ++ more)
  pub kept : new.kept.items ≡ old.kept.items
  pub vars : vec_capacity new.bound ≡ vec_capacity old.bound
  pub nodes : vec_capacity new.links ≡ vec_capacity old.links
  pub reach : vec_capacity new.reached ≡ vec_capacity old.reached
  pub spare : vec_capacity new.kept ≡ vec_capacity old.kept

-- what meets the bindings and links so far
pub record Fulfils (u : Substitution) (bank : List Tree) (w : Workspace) : Type 0 where
  pub leaving : Leaving u bank w.kept.items
  pub meets : Meets u bank w.bound.items
  pub joined : AreJoined u bank w.links.items

-- two terms were made the same, up to what the links say of smaller terms
pub record IsJoined (bank : List Tree) (old new : Workspace) (height : ℕ → ℕ) (s t : Tree) : Type 0
  where
    pub works : WorkStands bank new
    pub every : (u : Substitution) → Fulfils u bank old → substitute u s ≡ substitute u t
        → Fulfils u bank new
    pub alike : (n : ℕ) (u : Substitution) → Meets u bank new.bound.items
        → AlikeLinks n u bank new.links.items → Alike (height n) u s t

abbrev pub NeverSame : List Tree → Workspace → Tree → Tree → Type 0
NeverSame bank w s t =
    (u : Substitution) → Fulfils u bank w → ¬ (substitute u s ≡ substitute u t)

abbrev pub Joins : List Tree → Workspace → Workspace → (ℕ → ℕ) → Tree → Tree → Bool → Type 0
Joins bank old new height s t true = IsJoined bank old new height s t
Joins bank old new height s t false = NeverSame bank old s t

abbrev pub as_high : ℕ → ℕ
as_high n = n

-- one that stands for a class, and that nothing is bound or linked to
pub record StandsForClass (bank : List Tree) (w : Workspace) (p : Spot) : Type 0 where
  pub free : (x : ℕ) → spot_tree bank p ≡ var x → ¬ In x (bound_variables w.bound.items)
  pub unlinked : ¬ In p (froms w.links.items)

-- a term that may be looked through: it is no variable that is bound, and there is room
pub record CanReach (bank : List Tree) (bs : List Bound) (q : Spot) (room : ℕ) : Type 0 where
  pub ps : List Spot
  pub xs : List ℕ
  pub parts : TakePart bank bs ps xs
  pub bindings : AreBindings bank bs
  pub inside : In q ps
  pub free : PointsOn bank (bound_variables bs) q
  pub few : length ps ≤ room

-- the nodes that a term leads to: just the variables of what the bindings make of it are among them
pub record IsReach (bank : List Tree) (bs : List Bound) (q : Spot) (reached : List Spot) : Type 0
  where
    pub spots : AllSpots bank reached
    pub there : (x : ℕ) → IsShownIn bank reached x
        → IsTrue (has_variable x (substitute (resolved bank bs) (spot_tree bank q)))
    pub back : (x : ℕ) → ¬ IsShownIn bank reached x
        → has_variable x (substitute (resolved bank bs) (spot_tree bank q)) ≡ false
